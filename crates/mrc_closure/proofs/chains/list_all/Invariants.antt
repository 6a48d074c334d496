use Rattle.std.proofs.Common.{◌≡◌, ◌++◌}
use Rattle.mrc_closure.proofs.chains.list_all.Given as goal

-- the facts that are left, behind those of the list
abbrev pub invariant-loop-fact : goal.invariant-loop-fact
invariant-loop-fact l =
    (goal.iterator-loop-fact).can_next l.fact-iterator
    × (goal.iterator-loop-fact).is_finite l.fact-iterator
    × (l.list.items ++ l.fact-iterator ≡ l.fn.list.items ++ l.facts)
