-- The task that a call acts on.
use Rattle.std.proofs.Common.{◌≡◌, ℕ, Some, None, Ok, Err, refl}
use Rattle.mrc_model.specs.declared.Code.{Code}
use Rattle.mrc_model.specs.World.{World}
use Rattle.mrc_model.specs.Reply.{Refused, or_refuse}
use Rattle.mrc_model.specs.Target.{target}
use Rattle.mrc_machine.specs.Housing.{target_of}

pub target_none : (w : World) (t n : ℕ) (fault : Code)
    → target_of w t n ≡ None
    → target w t n fault ≡ Err (Refused fault)
unfolding target or_refuse
target_none w t n fault none = rw none refl

pub target_some : (w : World) (t n u : ℕ) (fault : Code)
    → target_of w t n ≡ Some u
    → target w t n fault ≡ Ok u
unfolding target or_refuse
target_some w t n u fault is = rw is refl
