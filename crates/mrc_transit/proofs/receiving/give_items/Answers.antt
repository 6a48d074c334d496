use Rattle.std.proofs.lemmas.Result.{err_from_is_err_and}
use Rattle.mrc_transit.proofs.ReceiveWalks.{items_over}
use Rattle.mrc_transit.proofs.receiving.give_items.Goals as goal

pub returns-in_err-give_item-clause-refused : goal.returns-in_err-give_item-clause-refused
returns-in_err-give_item-clause-refused c =
    let p = err_from_is_err_and c.from_residual-in_err-give_item.result
    c.from_residual-in_err-give_item.ensures.1 in
    rw (p.1, p.2) (items_over c.args.giving.now.space c.loop-item.giving.space c.args.items.now
    c.loop-item.item-index c.item-item.result c.loop-item.names.items c.in_err-give_item.field-0.0
    c.loop-item.invariant.0 c.loop-item-test.true c.item-item.is c.in_err-give_item.ensures.refused)
