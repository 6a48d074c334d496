-- Believe. What follows by the ten rules: from nothing, and from a fact with those of a set. This
-- profile's own choice.
use Rattle.std.specs.Prelude.{◌≡◌, ◌↔◌, ℕ, List, [], IsTrue}
use Rattle.mrc_base.specs.declared.PortRight.{PortRight}
use Rattle.mrc_base.specs.declared.Fact.{Fact}
use Rattle.mrc_base.specs.declared.Fact.TheVariants.{Hold}
use Rattle.mrc_model.specs.Wiring.{Wiring}
use Rattle.mrc_model.specs.Rules.{FactSet, Rule, InRange, FollowsFrom}
use Rattle.mrc_wiring.specs.FirstState.{IsFirstHold}
use Rattle.mrc_facts.specs.Sets.{has}

-- the list has the facts of the set, and no others
abbrev pub IsListOf : FactSet → List Fact → Type 0
IsListOf F facts = (g : Fact) → IsTrue (has facts g) ↔ F g

-- The fact is a hold over the wiring's tasks and classes, as one of the first state: what the first
-- rule concludes.
pub record IsHeldAtFirst (W : Wiring) (g : Fact) : Type 0 where
  pub task : ℕ
  pub class : ℕ
  pub right : PortRight
  pub is : g ≡ Hold task class right
  pub held : IsFirstHold W task class right
  pub in_range : InRange W g

-- A rule without premises concludes the fact: one of the first two, of what is held at first and of
-- births.
pub record IsFirstFact (W : Wiring) (g : Fact) : Type 0 where
  pub rule : ℕ
  pub instance : Rule W rule [] g
  pub in_range : InRange W g

-- A rule concludes g by an instance in range that has the fact p among its premises: the other
-- premises are in F.
pub record IsConsequence (W : Wiring) (F : FactSet) (p g : Fact) : Type 0 where
  pub rule : ℕ
  pub follows : FollowsFrom W F p rule g
