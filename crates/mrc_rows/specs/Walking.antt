-- Step. What is left of a set of facts, from one of them on. This profile's own choice.
use Rattle.std.specs.Prelude.{◌≡◌, ℕ, List, [], not, filter, IsTrue, IfSome, Option, None, Some}
use Rattle.mrc_base.specs.declared.Fact.{Fact}
use Rattle.mrc_facts.specs.Order.{is_before}
use Rattle.mrc_facts.specs.Sets.{has, IsAscending}
use Rattle.mrc_rows.specs.Rows.{IsWithin, group_of, key_of}
use Rattle.mrc_rows.specs.Planes.{is_in}
use Rattle.mrc_rows.specs.declared.planes.Planes.{Planes}

-- the facts from this one on; none if there is no such fact
abbrev pub facts_from : List Fact → Option Fact → List Fact
facts_from facts None = []
facts_from facts (Some f) = filter (λ g. not (is_before g f)) facts

-- the rows have the bits of the set's facts in this group
abbrev pub ArePlanesOf : List Fact → ℕ → Planes → Type 0
ArePlanesOf facts group planes =
    (g : Fact) → IsWithin g → group_of g ≡ group → has facts g ≡ is_in planes (key_of g)

-- a fact of the set is next, and the rows are those of its group
pub record IsAt (facts : List Fact) (next : Option Fact) (planes : Planes) : Type 0 where
  pub ascending : IsAscending facts
  pub there : IfSome next (λ f. IsTrue (has facts f))
  pub planes_are : IfSome next (λ f. IsWithin f → ArePlanesOf facts (group_of f) planes)
