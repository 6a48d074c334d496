-- One step more, a step that is refused, and the end.
use Rattle.std.proofs.Common.{rules}
use Rattle.std.proofs.lemmas.Result.{err_from_is_err_and}
use Rattle.mrc_stand_for.specs.Lists.{add_births}
use Rattle.mrc_stand_for.proofs.EachLemmas.{each_goes, each_refused, each_done}
use Rattle.mrc_stand_for.proofs.lists.Found.add_each_births.Goals as goal

pub loop-task-preserved : goal.loop-task-preserved
loop-task-preserved c =
    each_goes (add_births c.args.known.now c.args.line c.args.kinds.now) _ _ _ c.args.tasks.now
    c.loop-task.task-index c.task-item.result (search rules) c.task-item.is
    c.loop-task.invariant c.in_ok-add_births.ensures

pub returns-in_err-add_births : goal.returns-in_err-add_births
returns-in_err-add_births c =
    let p = err_from_is_err_and c.from_residual.result c.from_residual.ensures.1 in
    rw (p.1, p.2) (each_refused c.in_err-add_births.field-0.0
    (add_births c.args.known.now c.args.line c.args.kinds.now) _ _ c.args.tasks.now
    c.loop-task.task-index c.task-item.result (search rules) c.task-item.is
    c.loop-task.invariant c.in_err-add_births.ensures)

pub returns : goal.returns
returns c =
    each_done (add_births c.args.known.now c.args.line c.args.kinds.now) _ _ c.args.tasks.now
    c.loop-task.task-index (search rules) c.loop-task.invariant
