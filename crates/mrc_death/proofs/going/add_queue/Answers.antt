use Rattle.std.proofs.Common.{length, arith}
use Rattle.std.proofs.lemmas.Iterator.Consumers.{YieldsList-from_rest, YieldsList-turn}
use Rattle.std.proofs.lemmas.Iterator.Consumers.{YieldsList-end}
use Rattle.std.proofs.lemmas.List.{length_push}
use Rattle.mrc_death.proofs.RightsLaws.{queue_pushed, queue_done}
use Rattle.mrc_death.proofs.going.add_queue.Goals as goal

pub loop-message-preserved : goal.loop-message-preserved
loop-message-preserved c =
    let turn = YieldsList-turn (YieldsList-from_rest c.args.queue.now (cc)) c.loop-message.yielded _
    c.loop-message.yielded_by _ _ c.in-Some.message c.in-Some.is c.next.ensures.steps in
    queue_pushed c.args.queue.now _ c.loop-message.rights.items c.add_message.new.rights.items
    (length c.loop-message.yielded) _ c.in-Some.message.now turn.0 turn.1
    (length_push c.loop-message.yielded c.in-Some.message) c.loop-message.invariant
    c.in_ok-add_message.ensures

pub returns : goal.returns
returns c =
    let end = YieldsList-end (YieldsList-from_rest c.args.queue.now (cc)) c.loop-message.yielded _
    c.loop-message.yielded_by _ _ c.in-None.is c.next.ensures.steps in
    queue_done c.args.queue.now _ c.loop-message.rights.items (length c.loop-message.yielded)
    (omega (arith, end.1)) c.loop-message.invariant
