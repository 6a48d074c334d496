-- What was added so far.
use Rattle.std.proofs.Common.{◌≡◌, map}
use Rattle.mrc_wide_policy.specs.Facts.{fact}
use Rattle.mrc_wide_policy.proofs.asked.older_line.Given as goal

abbrev pub invariant-loop-class : goal.invariant-loop-class
invariant-loop-class l =
    l.facts ≡ map (fact l.line.says.task l.line.says.right) l.yielded
