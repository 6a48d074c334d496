use Rattle.std.proofs.Common.{subst}
use Rattle.mrc_why.specs.Slots.{IsRoutineForm}
use Rattle.mrc_why.proofs.Routines.{routine_row}
use Rattle.mrc_why.proofs.slots.has_routine.Goals as goal

pub returns-then-is_routine : goal.returns-then-is_routine
returns-then-is_routine c =
    λ _. routine_row c.args.interface.now c.rows-row-items.result.now c.loop-row.row-index
    c.row-item.result c.rows-row-items.ensures c.loop-row-test.true c.row-item.is
    (subst IsRoutineForm c.form.ensures (c.is_routine.ensures c.if-is_routine.true))
