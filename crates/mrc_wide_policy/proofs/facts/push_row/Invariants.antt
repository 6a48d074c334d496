-- What was added so far.
use Rattle.std.proofs.Common.{◌≡◌, take, ◌++◌}
use Rattle.std.specs.List.{flat_map}
use Rattle.mrc_wide_policy.specs.Facts.{right_facts}
use Rattle.mrc_wide_policy.proofs.facts.push_row.Given as goal

abbrev pub invariant-loop-right : goal.invariant-loop-right
invariant-loop-right l =
    l.facts ≡ l.fn.facts ++ flat_map (right_facts l.row) (take l.right-index l.rights)
