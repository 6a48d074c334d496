use Rattle.mrc_why.proofs.Labels.{routine_at}
use Rattle.mrc_why.proofs.slots.routine_of.Goals as goal

pub returns-in-Some : goal.returns-in-Some
returns-in-Some c =
    routine_at c.args.wired.now c.args.to c.args.class c.in-Some.name.now
    c.label-item-items.result.now c.loop-item.item-index _ c.label-item-items.ensures
    c.loop-item-test.true c.in-Some.ensures
