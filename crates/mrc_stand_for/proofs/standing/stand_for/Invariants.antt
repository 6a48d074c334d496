-- What is left goes on from what was added so far.
use Rattle.std.proofs.Common.{◌≡◌, drop}
use Rattle.mrc_stand_for.specs.Steps.{each}
use Rattle.mrc_stand_for.specs.Standing.{add_line, nothing_stands}
use Rattle.mrc_stand_for.proofs.standing.stand_for.Given as goal

abbrev pub invariant-loop-line : goal.invariant-loop-line
invariant-loop-line l =
    each (add_line) nothing_stands l.lines
    ≡ each (add_line) l.standing (drop l.line-index l.lines)
