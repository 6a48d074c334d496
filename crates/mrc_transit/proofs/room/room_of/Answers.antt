use Rattle.std.proofs.Common.{◌≡◌, ◌≤◌, ◌∙◌, ap, length, arith}
use Rattle.mrc_model.specs.Map.{len}
use Rattle.mrc_transit.proofs.RoomLaws.{entries_len}
use Rattle.mrc_transit.proofs.room.room_of.Goals as goal

pub overflow_sub-result : goal.overflow_sub-result
overflow_sub-result c =
    let is : c.len.result ≡ len c.args.space.now =
    entries_len c.args.space.now c.len.result (c.len.ensures.value ∙ ap length c.iter.ensures) in
    let few : len c.args.space.now ≤ 4096 = c.bounds.ensures.kept.few in
    omega arith

pub returns : goal.returns
returns c =
    let is : c.len.result ≡ len c.args.space.now =
    entries_len c.args.space.now c.len.result (c.len.ensures.value ∙ ap length c.iter.ensures) in
    let few : len c.args.space.now ≤ 4096 = c.bounds.ensures.kept.few in
    omega arith
