use Rattle.mrc_why.proofs.Labels.{slot_at}
use Rattle.mrc_why.proofs.slots.slot_of.Goals as goal

pub returns-in-Some : goal.returns-in-Some
returns-in-Some c =
    slot_at c.args.wired.now c.args.to c.args.passing.now.class c.args.passing.now.held
    c.args.passing.now.right c.in-Some.names c.label-item-items.result.now c.loop-item.item-index _
    c.label-item-items.ensures c.loop-item-test.true c.in-Some.ensures
