use Rattle.std.proofs.Common.{subst}
use Rattle.mrc_model.specs.declared.LabelItem.{LabelItem}
use Rattle.mrc_model.specs.IsIn.{IsIn}
use Rattle.mrc_why.proofs.Members.{in_at}
use Rattle.mrc_why.proofs.slots.has_reply.Goals as goal

pub returns-then-is_reply : goal.returns-then-is_reply
returns-then-is_reply c =
    λ _. subst (λ (x : LabelItem). IsIn x c.args.items.now) (c.is_reply.ensures c.if-is_reply.true)
    (in_at c.args.items.now c.loop-item.item-index _ c.loop-item-test.true)
