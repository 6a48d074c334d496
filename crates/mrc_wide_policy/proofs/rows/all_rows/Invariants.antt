-- What was added so far.
use Rattle.std.proofs.Common.{◌≡◌, drop, []}
use Rattle.mrc_stand_for.specs.Steps.{each}
use Rattle.mrc_wide_policy.specs.PolicyStanding.{add_row}
use Rattle.mrc_wide_policy.proofs.rows.all_rows.Given as goal

abbrev pub invariant-loop-task : goal.invariant-loop-task
invariant-loop-task l =
    each (add_row l.expects l.known l.line l.classes) [] l.tasks
    ≡ each (add_row l.expects l.known l.line l.classes) l.rows (drop l.task-index l.tasks)
