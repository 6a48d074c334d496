-- Those of the lines so far.
use Rattle.std.proofs.Common.{◌≡◌}
use Rattle.mrc_answer.specs.Verified.{searched}
use Rattle.mrc_answer.proofs.attack.unwaived.Given as goal

abbrev pub invariant-loop-line : goal.invariant-loop-line
invariant-loop-line l =
    l.left.items ≡ searched l.told l.yielded
