-- What was added so far.
use Rattle.std.proofs.Common.{◌≡◌, take}
use Rattle.std.specs.List.{flat_map}
use Rattle.mrc_wide_policy.specs.Facts.{row_facts}
use Rattle.mrc_wide_policy.proofs.facts.facts_in.Given as goal

abbrev pub invariant-loop-row : goal.invariant-loop-row
invariant-loop-row l =
    l.facts ≡ flat_map (row_facts l.rights) (take l.row-index l.rows)
