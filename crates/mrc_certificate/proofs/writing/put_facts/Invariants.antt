use Rattle.std.proofs.Common.{◌≡◌, ◌++◌}
use Rattle.mrc_certificate.specs.Spelling.{facts_bytes}
use Rattle.mrc_certificate.proofs.writing.put_facts.Given as goal

-- the bytes of all facts but those that are left are written
abbrev pub invariant-loop-fact : goal.invariant-loop-fact
invariant-loop-fact l =
    (goal.iterator-loop-fact).can_next l.fact-iterator
    × (goal.iterator-loop-fact).is_finite l.fact-iterator
    × (l.out.items ++ facts_bytes l.fact-iterator ≡ l.fn.out.items ++ facts_bytes l.facts)
