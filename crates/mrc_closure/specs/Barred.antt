-- Believe. Only `IsWithout`: facts without the barred ones. This profile's own choice.
use Rattle.std.specs.Prelude.{false, ◌≡◌, List, IsTrue}
use Rattle.mrc_base.specs.declared.Fact.{Fact}
use Rattle.mrc_model.specs.Wiring.{Wiring}
use Rattle.mrc_facts.specs.Sets.{has}
use Rattle.mrc_classes.specs.Following.{IsListOf}
use Rattle.mrc_closure.specs.Dealing.{FromDealt}
use Rattle.mrc_closure.specs.Merging.{Merged}

-- the facts have none of the barred ones
abbrev pub IsWithout : (barred facts : List Fact) → Type 0
IsWithout barred facts = (g : Fact) → IsTrue (has barred g) → has facts g ≡ false

-- Of all that follows from the new facts what is not barred was put into a set. What was new there
-- is what is new now.
pub record IsBarredRound (W : Wiring) (barred before new after new_then : List Fact)
    : Type 0 where
  pub all : List Fact
  pub follow : IsListOf (FromDealt W before new 0 1) all
  pub found : List Fact
  pub fewer : (g : Fact) → IsTrue (has found g) → IsTrue (has all g)
  pub without : IsWithout barred found
  pub merged : Merged before found after new_then
