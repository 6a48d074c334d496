-- Step. A fault that is not out of memory. This profile's own choice.
use Rattle.mrc_base.specs.declared.memory.OrMemory.{OrMemory}
use Rattle.mrc_base.specs.declared.memory.OrMemory.TheVariants.{Fault, Memory}

-- the call was refused by a fault of its own
abbrev pub IsFault : {F : Type 0} → OrMemory F → Type 0
IsFault (Fault fault) = Unit {0}
IsFault Memory = ⊥
