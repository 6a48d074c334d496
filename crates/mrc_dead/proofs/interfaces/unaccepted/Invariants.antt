use Rattle.std.proofs.Common.{◌≡◌, length}
use Rattle.mrc_wiring.specs.Table.{wiring_of}
use Rattle.mrc_dead.specs.Asking.{those_below}
use Rattle.mrc_dead.specs.Dead.{is_unaccepted}
use Rattle.mrc_dead.proofs.interfaces.unaccepted.Given as goal

-- those before this one
abbrev pub invariant-loop-interface : goal.invariant-loop-interface
invariant-loop-interface l =
    (l.interface-end ≡ length l.wired.interfaces)
    × (l.numbers.items ≡ those_below (is_unaccepted (wiring_of l.wired)) l.interface)
