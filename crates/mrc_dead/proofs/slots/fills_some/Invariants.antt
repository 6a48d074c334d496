use Rattle.std.proofs.Common.{◌≡◌, false}
use Rattle.mrc_facts.specs.Sets.{has}
use Rattle.mrc_model.specs.Wiring.{classes}
use Rattle.mrc_wiring.specs.Table.{wiring_of}
use Rattle.mrc_dead.specs.Asking.{any_below}
use Rattle.mrc_dead.specs.Dead.{fills_at}
use Rattle.mrc_dead.proofs.slots.fills_some.Given as goal

-- on no class before this one
abbrev pub invariant-loop-class : goal.invariant-loop-class
invariant-loop-class l =
    (l.class-end ≡ classes (wiring_of l.wired))
    × (any_below (fills_at (wiring_of l.wired) (has l.facts) l.disp l.sort l.task) l.class ≡ false)
