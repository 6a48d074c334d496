-- What was added so far.
use Rattle.std.proofs.Common.{◌≡◌, take, filter}
use Rattle.mrc_wide_policy.specs.Facts.{is_in}
use Rattle.mrc_wide_policy.proofs.facts.those_in.Given as goal

abbrev pub invariant-loop-fact : goal.invariant-loop-fact
invariant-loop-fact l =
    l.those ≡ filter (is_in l.rights l.rows) (take l.fact-index l.facts)
