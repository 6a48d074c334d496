-- The seat is as it was handed in: a turn that finds nothing leaves it.
use Rattle.std.proofs.Common.{◌≡◌}
use Rattle.mrc_live.proofs.live.Live.receive_until.Given as goal

abbrev pub invariant-loop : goal.invariant-loop
invariant-loop g l =
    (goal.iterator-loop g).can_next l.iterator' × (goal.iterator-loop g).is_finite l.iterator'
    × (l.seat ≡ l.initial.seat)
