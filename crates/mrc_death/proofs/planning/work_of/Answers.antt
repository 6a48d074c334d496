use Rattle.std.proofs.Common.{length}
use Rattle.mrc_death.proofs.Rooms.{room_of}
use Rattle.mrc_death.proofs.WorkLaws.{work_planned, room_as}
use Rattle.mrc_death.proofs.planning.work_of.Goals as goal

pub returns : goal.returns
returns c =
    let s = c.args.store.now in
    let once = c.in_ok-once.once in
    let lost = c.in_ok-lost.lost in
    record {
      ready = record {
        can_remove = c.requires;
        room = room_as s c.len.result c.len-2.result (length once.items) (length lost.items) _ _
            c.len.ensures once.ok.0 c.len-2.ensures lost.ok.0
            (room_of _ s c.ports.result.now c.ports.ensures
            (c.has_room.ensures c.if-not-has_room.false));
      };
      exact = work_planned s c.args.taken.task c.args.taken.removal c.args.taken.doomed
          c.in_ok-deaths.deaths.dead c.in_ok-deaths.deaths.lost once.items lost.items
          c.in_ok-rights.rights.items c.deref.result.now c.in_ok-deaths.ensures.dead
          c.in_ok-deaths.ensures.lost c.in_ok-rights.ensures c.deref.ensures.value
          c.in_ok-once.ensures c.in_ok-lost.ensures;
    }
