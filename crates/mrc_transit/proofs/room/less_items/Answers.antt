use Rattle.std.proofs.Common.{◌∷◌}
use Rattle.mrc_transit.proofs.RoomLaws.{all_of, if_none, item_step, item_none}
use Rattle.mrc_transit.proofs.room.less_items.Goals as goal

pub returns-in_err-left-clause-none : goal.returns-in_err-left-clause-none
returns-in_err-left-clause-none c =
    if_none _ c.from_residual.result
    (item_none c.args.space.now (c.args.reply.now ∷ all_of c.args.arguments.now) c.args.items.now
    c.loop-place.place c.index-items-place.result c.loop-place.left c.args.room
    c.is_named-named.result c.takes_name.result c.loop-place.invariant c.loop-place-test.true
    c.index-items-place.is c.is_named-named.ensures c.takes_name.ensures
    c.in_err-left.ensures.none)

pub loop-place-preserved : goal.loop-place-preserved
loop-place-preserved c =
    item_step c.args.space.now (c.args.reply.now ∷ all_of c.args.arguments.now) c.args.items.now
    c.loop-place.place c.index-items-place.result c.loop-place.left c.in_ok-left.left c.args.room
    c.is_named-named.result c.takes_name.result c.loop-place.invariant c.loop-place-test.true
    c.index-items-place.is c.is_named-named.ensures c.takes_name.ensures c.in_ok-left.ensures.some
