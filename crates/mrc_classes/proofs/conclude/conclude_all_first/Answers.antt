use Rattle.std.proofs.Common.{arith}
use Rattle.mrc_wiring.specs.Table.{wiring_of}
use Rattle.mrc_facts.specs.Sets.{has}
use Rattle.mrc_classes.specs.Places.{FirstAt}
use Rattle.mrc_classes.proofs.Adding.{below_more}
use Rattle.mrc_classes.proofs.Beginning.{first_listed}
use Rattle.mrc_classes.proofs.conclude.conclude_all_first.Goals as goal

pub loop-task-preserved : goal.loop-task-preserved
loop-task-preserved c =
    below_more c.loop-task.task (FirstAt (wiring_of c.args.rules.now) (has c.args.none.now))
    c.loop-task.invariant c.in_ok-conclude_first.ensures

pub returns : goal.returns
returns c =
    first_listed (wiring_of c.args.rules.now) (has c.args.none.now) c.loop-task.task
    c.loop-task.found (omega (arith, c.tasks-task-end.ensures.exact)) c.loop-task.invariant
