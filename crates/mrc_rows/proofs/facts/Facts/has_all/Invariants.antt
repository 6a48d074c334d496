use Rattle.mrc_rows.proofs.Wholes.{AreHad}
use Rattle.mrc_rows.proofs.facts.Facts.has_all.Given as goal

-- each fact but those that are left is there
abbrev pub invariant-loop-fact : goal.invariant-loop-fact
invariant-loop-fact l =
    (goal.iterator-loop-fact).can_next l.fact-iterator
    × (goal.iterator-loop-fact).is_finite l.fact-iterator
    × AreHad l.other l.self l.fact-iterator
