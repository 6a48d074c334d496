-- Believe. A refusal of code, read as one of the definitions. Of want of memory no definition
-- speaks.
use Rattle.std.specs.Prelude.{◌≡◌, Result, Ok, Err, IsOk}
use Rattle.mrc_base.specs.declared.memory.OrMemory.{OrMemory}
use Rattle.mrc_base.specs.declared.memory.OrMemory.TheVariants.{Fault, Memory}
use Rattle.mrc_model.specs.declared.Code.{Code}
use Rattle.mrc_model.specs.Reply.{Try, Refused}

-- the definition refuses with this code; memory runs out only where it does not refuse
abbrev pub IsRefusal : {A : Type 0} → OrMemory Code → Try A → Type 0
IsRefusal (Fault code) m = m ≡ Err (Refused code)
IsRefusal Memory m = IsOk m

-- what code tells beforehand of a step of the definitions: that it is not refused, or its refusal
abbrev pub Foretells : {U A : Type 0} → Result U Code → Try A → Type 0
Foretells (Ok u) m = IsOk m
Foretells (Err code) m = m ≡ Err (Refused code)
