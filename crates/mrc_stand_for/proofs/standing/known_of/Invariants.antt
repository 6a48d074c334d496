-- What is known so far.
use Rattle.std.proofs.Common.{◌≡◌, take}
use Rattle.mrc_stand_for.specs.Standing.{known_of}
use Rattle.mrc_stand_for.proofs.standing.known_of.Given as goal

abbrev pub invariant-loop-line : goal.invariant-loop-line
invariant-loop-line l = l.known ≡ known_of (take l.line-index l.lines)
