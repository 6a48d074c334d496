-- Believe. What is held in the first state of a wiring, by classes. This profile's own choice.
use Rattle.std.specs.Prelude.{◌≡◌, ◌↔◌, ℕ, List, Some, Bool, true, false, IsTrue}
use Rattle.mrc_base.specs.declared.Fact.{Fact}
use Rattle.mrc_base.specs.declared.Fact.TheVariants.{Hold, Carry, Backup}
use Rattle.mrc_base.specs.declared.PortRight.{PortRight}
use Rattle.mrc_model.specs.IsIn.{IsIn}
use Rattle.mrc_model.specs.Wiring.{Wiring}
use Rattle.mrc_model.specs.World.{class_of, task_class}
use Rattle.mrc_model.specs.First.{first}
use Rattle.mrc_model.specs.Breach.{Holds}

-- in the first state a task of class t holds the right on a port of class c
pub record IsFirstHold (W : Wiring) (t c : ℕ) (r : PortRight) : Type 0 where
  pub task : ℕ
  pub port : ℕ
  pub held : Holds (first W) task port r
  pub port_class : class_of (first W).store port ≡ Some c
  pub task_class_is : task_class (first W) task ≡ t

-- the list has the holds of the first state, and no other holds
abbrev pub HasFirstHolds : Wiring → List Fact → Type 0
HasFirstHolds W holds = (t c : ℕ) (r : PortRight) → IsIn (Hold t c r) holds ↔ IsFirstHold W t c r

-- the fact is a hold
abbrev pub is_hold : Fact → Bool
is_hold (Hold t c r) = true
is_hold (Carry d c r) = false
is_hold (Backup c n) = false

-- the list has holds, and no other facts
abbrev pub AreHolds : List Fact → Type 0
AreHolds facts = (fact : Fact) → IsIn fact facts → IsTrue (is_hold fact)
