-- Believe. Steps over a list, one after the other, up to the first refusal. This profile's own
-- choice.
use Rattle.std.specs.Prelude.{◌≡◌, ℕ, List, [], ◌∷◌, Result, Ok, Err, nat_eq, length}
use Rattle.std.specs.Prelude.{if◌then◌else◌}
use Rattle.mrc_base.specs.Reading.{◌>>=◌, Refuses}
use Rattle.mrc_base.specs.declared.memory.OrMemory.{OrMemory}
use Rattle.mrc_stand_for.specs.declared.faults.StandFault.{StandFault}
use Rattle.mrc_stand_for.specs.declared.faults.StandFault.TheVariants.{Empty}

-- a step for each element, in order
abbrev pub each : {S A F : Type 0} → (S → A → Result S F) → S → List A → Result S F
each step s [] = Ok s
each step s (x ∷ xs) = step s x >>= λ more. each step more xs

-- a list of line n that stands for something
abbrev pub filled : {A : Type 0} → ℕ → List A → Result (List A) StandFault
filled n xs = if nat_eq (length xs) 0 then Err (Empty n) else Ok xs

-- the value that a change left is the one that is said, unless memory ran out
abbrev pub Leaves : {S F : Type 0} → Result (Unit {0}) (OrMemory F) → S → Result S F → Type 0
Leaves (Ok done) new said = said ≡ Ok new
Leaves (Err refusal) new said = Refuses refusal said
