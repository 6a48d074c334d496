use Rattle.std.proofs.Common.{◌≡◌, false}
use Rattle.mrc_facts.specs.Sets.{has}
use Rattle.mrc_wiring.specs.Table.{wiring_of}
use Rattle.mrc_dead.specs.Asking.{any_below, may_hear}
use Rattle.mrc_dead.proofs.asking.has_hearer.Given as goal

-- no task before this one is asked
abbrev pub invariant-loop-other : goal.invariant-loop-other
invariant-loop-other l =
    (l.other-end ≡ (wiring_of l.wired).tasks)
    × (any_below (may_hear (has l.facts) l.class l.task) l.other ≡ false)
