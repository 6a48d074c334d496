use Rattle.std.proofs.Common.{◌<◌, rules, length}
use Rattle.mrc_live.specs.declared.event.Event.{Event}
use Rattle.mrc_live.proofs.Growing.{kept_more}
use Rattle.mrc_live.proofs.desk.Desk.take_if_any.Goals as goal
use Rattle.mrc_machine.specs.declared.call.Call.TheVariants.{Receive}

-- the journal goes on by the event
pub invariant_of-self-2 : goal.invariant_of-self-2
invariant_of-self-2 g c =
    let was = c.self.inside in
    let below : length was.events.items < was.limit = search rules in
    let e : Event = record {
      seat = c.seat.inside.number;
      task = c.seat.inside.task;
      call = Receive c.args.name c.args.limit;
      reply = c.in-Ok-step.reply;
    } in (
      kept_more was.guarded c.step.new.guarded was.events.items c.note.new.events.items was.limit
          was.made was.book.total c.add.new.self.total was.left.parts e c.self.invariant.0 below
          (search rules) (search rules) (search rules) (search rules) (search rules),
      c.self.invariant.1,
    )
