-- Law. What is called quiet is quiet, and what is called dead is dead: no message goes from one
-- task to another there. This profile's own choice.
use Rattle.std.specs.Prelude.{◌≡◌, ◌≢◌, ◌<◌, ℕ, Bool, true, false, Some}
use Rattle.mrc_base.specs.declared.Disp.{Disp}
use Rattle.mrc_base.specs.declared.Fact.{Fact}
use Rattle.mrc_base.specs.declared.PortRight.{PortRight}
use Rattle.mrc_base.specs.declared.PortRight.TheVariants.{Receive}
use Rattle.mrc_base.specs.Disposition.{needed, given}
use Rattle.mrc_model.specs.declared.LabelItem.{LabelItem}
use Rattle.mrc_model.specs.declared.Verb.TheVariants.{Sends}
use Rattle.mrc_model.specs.Breach.{Holds}
use Rattle.mrc_model.specs.Covers.{Covers}
use Rattle.mrc_model.specs.Rules.{Has, CanSendBy}
use Rattle.mrc_model.specs.Wiring.{Wiring, admits, classes, may}
use Rattle.mrc_model.specs.World.{World, class_of, task_class}
use Rattle.mrc_dead.specs.Asking.{accepts, is_quiet}
use Rattle.mrc_dead.specs.Dead.{is_dead}

-- in a world, a task of class t holds the right on a port of class c
pub record HoldsAt (w : World) (t c : ℕ) (r : PortRight) : Type 0 where
  pub task : ℕ
  pub port : ℕ
  pub of_task : task_class w task ≡ t
  pub of_port : class_of w.store port ≡ Some c
  pub holds : Holds w task port r

-- A set covers two worlds, as those of one run. A task of class t holds in the one a right by
-- which it can send to a port of class c. A task of another class, u, holds in the other the
-- receive right of such a port.
pub record MayReach (W : Wiring) (set : Fact → Bool) (w v : World) (t u c : ℕ) : Type 0 where
  pub covers : Covers (Has set) w
  pub covers_other : Covers (Has set) v
  pub low : t < W.tasks
  pub low_other : u < W.tasks
  pub other : t ≢ u
  pub right : PortRight
  pub can_send : CanSendBy right
  pub sender : HoldsAt w t c right
  pub receiver : HoldsAt v u c Receive

-- Then the class is not quiet. So in a run no message that a task sent to a port of a quiet class
-- is received by a task of another class.
abbrev pub QuietIsQuiet : Type 0
QuietIsQuiet =
    (W : Wiring) (set : Fact → Bool) (w v : World) (t u c : ℕ)
    → MayReach W set w v t u c
    → is_quiet W set c ≡ false

-- If class c accepts the item, and the sender also holds what a slot of this disposition needs, on
-- a port of class d that the slot's type admits, and may send it, the slot is not called dead. To
-- send a right in the slot takes all that. So in a run no message that goes from a task to one of
-- another class has a right in a slot that is called dead.
abbrev pub DeadIsDead : Type 0
DeadIsDead =
    (W : Wiring) (set : Fact → Bool) (w v : World) (t u c d : ℕ) (item : LabelItem) (x : Disp)
    (sort : ℕ)
    → MayReach W set w v t u c
    → c < classes W
    → accepts W item c ≡ true
    → d < classes W
    → HoldsAt w t d (needed x)
    → admits W sort d ≡ true
    → may W Sends t (given x) d ≡ true
    → is_dead W set item x sort ≡ false
