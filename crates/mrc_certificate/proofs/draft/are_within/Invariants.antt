use Rattle.std.proofs.Common.{◌≡◌}
use Rattle.std.specs.List.{list_all}
use Rattle.mrc_certificate.specs.Drafts.{is_within}
use Rattle.mrc_certificate.proofs.draft.are_within.Given as goal

-- all facts but those that are left are within
abbrev pub invariant-loop-fact : goal.invariant-loop-fact
invariant-loop-fact l =
    (goal.iterator-loop-fact).can_next l.fact-iterator
    × (goal.iterator-loop-fact).is_finite l.fact-iterator
    × (list_all (is_within l.tasks l.classes) l.facts
    ≡ list_all (is_within l.tasks l.classes) l.fact-iterator)
