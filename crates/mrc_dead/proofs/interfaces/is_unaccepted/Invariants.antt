use Rattle.std.proofs.Common.{◌≡◌, false}
use Rattle.mrc_model.specs.Wiring.{classes}
use Rattle.mrc_wiring.specs.Table.{wiring_of}
use Rattle.mrc_dead.specs.Asking.{any_below}
use Rattle.mrc_dead.specs.Dead.{accepts_some}
use Rattle.mrc_dead.proofs.interfaces.is_unaccepted.Given as goal

-- no class before this one accepts anything of it
abbrev pub invariant-loop-class : goal.invariant-loop-class
invariant-loop-class l =
    (l.class-end ≡ classes (wiring_of l.wired))
    × (any_below (accepts_some (wiring_of l.wired) l.interface) l.class ≡ false)
