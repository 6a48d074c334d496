use Rattle.std.proofs.Common.{◌∙◌}
use Rattle.mrc_transit.proofs.RoomLaws.{room_told}
use Rattle.mrc_transit.proofs.room.has_room.Goals as goal

pub returns : goal.returns
returns c = λ s t name receipts.
    c.is_some.ensures
    ∙ room_told c.args.space.now s t name receipts c.args.parcel.now c.less_message.result
    c.less_message.ensures.some c.less_message.ensures.none
