use Rattle.std.proofs.Common.{◌≡◌, false}
use Rattle.mrc_facts.specs.Sets.{has}
use Rattle.mrc_wiring.specs.Table.{wiring_of}
use Rattle.mrc_dead.specs.Asking.{any_below, asks_at}
use Rattle.mrc_dead.proofs.asking.is_quiet.Given as goal

-- no task before this one may ask another
abbrev pub invariant-loop-task : goal.invariant-loop-task
invariant-loop-task l =
    (l.task-end ≡ (wiring_of l.wired).tasks)
    × (any_below (asks_at (wiring_of l.wired) (has l.facts) l.class) l.task ≡ false)
