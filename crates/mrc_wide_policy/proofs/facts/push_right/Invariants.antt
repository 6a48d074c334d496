-- What was added so far.
use Rattle.std.proofs.Common.{◌≡◌, take, map, ◌++◌}
use Rattle.mrc_wide_policy.specs.Facts.{fact}
use Rattle.mrc_wide_policy.proofs.facts.push_right.Given as goal

abbrev pub invariant-loop-class : goal.invariant-loop-class
invariant-loop-class l =
    l.facts ≡ l.fn.facts
    ++ map (fact l.row.task l.right) (take l.class-index l.row.classes)
