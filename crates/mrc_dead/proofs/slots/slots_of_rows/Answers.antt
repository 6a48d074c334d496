use Rattle.std.proofs.Common.{subst}
use Rattle.mrc_model.specs.IsIn.{IsIn}
use Rattle.mrc_dead.proofs.SlotSteps.{in_read}
use Rattle.mrc_dead.proofs.slots.slots_of_rows.Goals as goal

-- the row is one of the interface
pub judge_row-requires-clause-row : goal.judge_row-requires-clause-row
judge_row-requires-clause-row c =
    subst (IsIn c.row-item.result) c.rows-row-items.ensures
    (in_read c.rows-row-items.result.now c.loop-row.row-index c.row-item.result
    c.loop-row-test.true c.row-item.is)
