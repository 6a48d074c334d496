-- What was added so far.
use Rattle.std.proofs.Common.{◌≡◌, take, filter}
use Rattle.mrc_wide_policy.specs.Facts.{facts_of}
use Rattle.mrc_wide_policy.specs.PolicyStanding.{has_name}
use Rattle.mrc_wide_policy.proofs.standing.facts_named.Given as goal

abbrev pub invariant-loop-line : goal.invariant-loop-line
invariant-loop-line l =
    l.facts ≡ facts_of (filter (has_name l.name) (take l.line-index l.lines))
