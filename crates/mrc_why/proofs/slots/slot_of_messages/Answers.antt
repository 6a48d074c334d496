use Rattle.std.proofs.Common.{subst}
use Rattle.mrc_model.specs.IsIn.{IsIn}
use Rattle.mrc_why.proofs.Members.{in_read}
use Rattle.mrc_why.proofs.slots.slot_of_messages.Goals as goal

pub slot_of_row-requires-clause-row : goal.slot_of_row-requires-clause-row
slot_of_row-requires-clause-row c =
    subst (IsIn c.row-item.result) c.rows-row-items.ensures
    (in_read c.rows-row-items.result.now c.loop-row.row-index c.row-item.result
    c.loop-row-test.true c.row-item.is)
