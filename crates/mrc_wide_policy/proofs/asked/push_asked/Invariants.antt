-- What was added so far.
use Rattle.std.proofs.Common.{◌≡◌, take, map, ◌++◌}
use Rattle.mrc_wide_policy.specs.Asked.{asked_fact}
use Rattle.mrc_wide_policy.proofs.asked.push_asked.Given as goal

abbrev pub invariant-loop-fact : goal.invariant-loop-fact
invariant-loop-fact l =
    l.asked.items ≡ l.fn.asked.items
    ++ map (asked_fact l.waived l.line) (take l.fact-index l.line.facts)
