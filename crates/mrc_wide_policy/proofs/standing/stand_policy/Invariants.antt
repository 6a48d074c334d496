-- What is left goes on from what was added so far.
use Rattle.std.proofs.Common.{◌≡◌, drop}
use Rattle.mrc_stand_for.specs.Steps.{each}
use Rattle.mrc_wide_policy.specs.PolicyStanding.{add_line, nothing_demanded}
use Rattle.mrc_wide_policy.proofs.standing.stand_policy.Given as goal

abbrev pub invariant-loop-line : goal.invariant-loop-line
invariant-loop-line l =
    each add_line (nothing_demanded l.fn.known) l.lines
    ≡ each add_line l.so_far (drop l.line-index l.lines)
