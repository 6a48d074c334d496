use Rattle.std.proofs.Common.{◌≡◌}
use Rattle.mrc_facts.specs.Sets.{has}
use Rattle.mrc_wiring.specs.Table.{wiring_of}
use Rattle.mrc_dead.specs.Asking.{asks_for, those_below}
use Rattle.mrc_dead.proofs.asking.askers.Given as goal

-- those before this one
abbrev pub invariant-loop-task : goal.invariant-loop-task
invariant-loop-task l =
    (l.task-end ≡ (wiring_of l.wired).tasks)
    × (l.tasks.items ≡ those_below (asks_for (wiring_of l.wired) (has l.facts) l.item) l.task)
