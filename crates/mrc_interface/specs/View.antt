-- Believe. What the calls give. What the calls of this crate give.
use Rattle.std.specs.Prelude.{◌≡◌, Result, Ok, Err}
use Rattle.mrc_base.specs.declared.memory.OrMemory.{OrMemory}
use Rattle.mrc_base.specs.Reading.{Refuses}

-- what was answered is what is given, unless memory ran out; with a refusal the argument comes back
abbrev pub GivesOrReturns : {A B F : Type 0} → A → Result B (A × OrMemory F) → Result B F → Type 0
GivesOrReturns argument (Ok x) given = given ≡ Ok x
GivesOrReturns argument (Err refused) given = Refuses refused.1 given × (refused.0 ≡ argument)
