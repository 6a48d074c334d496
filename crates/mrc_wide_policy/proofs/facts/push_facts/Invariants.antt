-- What was added so far.
use Rattle.std.proofs.Common.{◌≡◌, take, ◌++◌}
use Rattle.mrc_wide_policy.proofs.facts.push_facts.Given as goal

abbrev pub invariant-loop-fact : goal.invariant-loop-fact
invariant-loop-fact l =
    l.list ≡ l.fn.list ++ take l.fact-index l.facts
