-- One step more, a step that is refused, and the end.
use Rattle.std.proofs.Common.{rules}
use Rattle.std.proofs.lemmas.Result.{err_from_is_err_and}
use Rattle.mrc_stand_for.proofs.EachLemmas.{each_goes, each_refused, each_done}
use Rattle.mrc_wide_policy.specs.PolicyStanding.{add_row}
use Rattle.mrc_wide_policy.proofs.rows.all_rows.Goals as goal

pub loop-task-preserved : goal.loop-task-preserved
loop-task-preserved c =
    each_goes
    (add_row c.args.expects c.args.known.now c.args.line c.args.classes.now)
    _ _ _ c.args.tasks.now
    c.loop-task.task-index c.task-item.result (search rules) c.task-item.is
    c.loop-task.invariant c.in_ok-add_row.ensures

pub returns-in_err-add_row : goal.returns-in_err-add_row
returns-in_err-add_row c =
    let p = err_from_is_err_and c.from_residual.result c.from_residual.ensures.1 in
    rw (p.1, p.2) (each_refused c.in_err-add_row.field-0.0
    (add_row c.args.expects c.args.known.now c.args.line c.args.classes.now)
    _ _ c.args.tasks.now
    c.loop-task.task-index c.task-item.result (search rules) c.task-item.is
    c.loop-task.invariant c.in_err-add_row.ensures)

pub returns : goal.returns
returns c =
    each_done
    (add_row c.args.expects c.args.known.now c.args.line c.args.classes.now)
    _ _ c.args.tasks.now
    c.loop-task.task-index (search rules) c.loop-task.invariant
