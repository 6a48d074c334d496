-- What is left goes on from what was added so far.
use Rattle.std.proofs.Common.{◌≡◌, drop, length}
use Rattle.mrc_stand_for.specs.Steps.{each}
use Rattle.mrc_stand_for.specs.Standing.{add_part}
use Rattle.mrc_stand_for.proofs.standing.Standing.add_parts.Given as goal

abbrev pub invariant-loop-says : goal.invariant-loop-says
invariant-loop-says l =
    each (add_part l.line) l.fn.self l.fn.parts.items
    ≡ each (add_part l.line) l.self (drop (length l.yielded) l.fn.parts.items)
