use Rattle.mrc_transit.proofs.ReceiveSizes.{other_arg}
use Rattle.mrc_transit.proofs.receiving.give_arg.Goals as goal

pub returns-in_ok-give_items-in-Items-clause-other
    : goal.returns-in_ok-give_items-in-Items-clause-other
returns-in_ok-give_items-in-Items-clause-other c =
    other_arg c.args.argument.now c.in-Items.right c.in-Items.items c.as_slice.result.now
    c.in_ok-give_items-in-Items.field-0 c.moving.result c.args.giving.now.space
    c.give_items.new.giving.space
    c.in-Items.is c.moving.ensures c.as_slice.ensures c.in_ok-give_items-in-Items.ensures.given
    c.in_ok-give_items-in-Items.ensures.fit
