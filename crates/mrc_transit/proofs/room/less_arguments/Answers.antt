use Rattle.std.proofs.Common.{◌∷◌, []}
use Rattle.mrc_transit.proofs.RoomLaws.{if_none, args_step, args_over}
use Rattle.mrc_transit.proofs.room.less_arguments.Goals as goal

pub returns-in_err-left-clause-none : goal.returns-in_err-left-clause-none
returns-in_err-left-clause-none c =
    if_none _ c.from_residual.result
    (args_over c.args.space.now (c.args.reply.now ∷ []) c.args.arguments.now c.loop-place.place
    c.index-arguments-place.result c.loop-place.left c.args.room c.loop-place.invariant
    c.loop-place-test.true c.index-arguments-place.is c.in_err-left.ensures.none)

pub loop-place-preserved : goal.loop-place-preserved
loop-place-preserved c =
    args_step c.args.space.now (c.args.reply.now ∷ []) c.args.arguments.now c.loop-place.place
    c.index-arguments-place.result c.loop-place.left c.in_ok-left.left c.args.room
    c.loop-place.invariant c.loop-place-test.true c.index-arguments-place.is
    c.in_ok-left.ensures.some
