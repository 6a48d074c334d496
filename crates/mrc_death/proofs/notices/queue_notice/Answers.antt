use Rattle.std.proofs.Common.{Err, ap, ◌∙◌}
use Rattle.mrc_death.proofs.Telling.{notice_queued, never_full, never_out_of_room}
use Rattle.mrc_death.proofs.notices.queue_notice.Goals as goal

pub unreachable-requires : goal.unreachable-requires
unreachable-requires c =
    never_full c.args.store.now c.enqueue.new.self c.args.port c.args.message c.enqueue.result
    c.enqueue.ensures.queued c.enqueue.ensures.absent c.requires.by_once c.requires.room
    c.in-Err-Full.field-0-0 (c.in-Err-Full.is ∙ ap Err c.in-Err-Full.field-0-is)

pub unreachable-requires-in-Err-Memory : goal.unreachable-requires-in-Err-Memory
unreachable-requires-in-Err-Memory c =
    never_out_of_room c.args.store.now c.enqueue.new.self c.args.port c.args.message
    c.enqueue.result c.enqueue.ensures.queued c.enqueue.ensures.absent c.requires.by_once
    c.requires.room c.in-Err-Memory.field-0-0
    (c.in-Err-Memory.is ∙ ap Err c.in-Err-Memory.field-0-is)

pub returns : goal.returns
returns c =
    notice_queued c.args.store.now c.enqueue.new.self c.args.port c.args.message c.enqueue.result
    c.enqueue.ensures.queued c.enqueue.ensures.absent c.requires.by_once c.requires.room
