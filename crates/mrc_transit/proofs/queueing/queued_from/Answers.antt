use Rattle.std.proofs.Common.{◌+◌, sym, subst, ◌∙◌, ap, arith, take, drop, length}
use Rattle.mrc_transit.proofs.QueueLaws.{QueueIs, queue_begun, queue_split, queue_turn, queue_done}
use Rattle.mrc_transit.proofs.queueing.queued_from.Goals as goal

pub loop-argument-init : goal.loop-argument-init
loop-argument-init c =
    queue_begun c.args.arguments.now c.args.items.now _ c.in_ok-queued.ensures.items c.requires

pub split_at-requires : goal.split_at-requires
split_at-requires c =
    let split = queue_split c.args.arguments.now c.args.items.now c.loop-argument.left.now
    c.loop-argument.queued.items c.loop-argument.argument-index c.loop-argument.invariant
    c.argument-item.result c.loop-argument-test.true c.argument-item.is in
    omega (arith, split, c.names_in.ensures)

pub queued_by-requires : goal.queued_by-requires
queued_by-requires c = c.split_at.ensures.front_len ∙ c.names_in.ensures

pub loop-argument-preserved : goal.loop-argument-preserved
loop-argument-preserved c =
    let args = c.args.arguments.now in
    let items = c.args.items.now in
    let k = c.loop-argument.argument-index in
    subst (λ queued. QueueIs args items c.split_at.result.1.now queued (k + 1))
    (sym c.in_ok-push.ensures.items)
    (queue_turn args items c.loop-argument.left.now c.loop-argument.queued.items k
    c.loop-argument.invariant c.argument-item.result c.loop-argument-test.true
    c.argument-item.is c.split_at.result.0.now c.split_at.result.1.now c.in_ok-next.next
    (c.split_at.ensures.front ∙ ap (λ n. take n c.loop-argument.left.now) c.names_in.ensures)
    (c.split_at.ensures.front_len ∙ c.names_in.ensures)
    (c.split_at.ensures.back ∙ ap (λ n. drop n c.loop-argument.left.now) c.names_in.ensures)
    (ap (λ n. length c.split_at.result.1.now + n) (sym c.names_in.ensures)
    ∙ c.split_at.ensures.back_len)
    c.in_ok-next.ensures)

pub returns : goal.returns
returns c =
    queue_done c.args.arguments.now c.args.items.now c.loop-argument.left.now
    c.loop-argument.queued.items c.loop-argument.argument-index c.loop-argument.invariant
    c.loop-argument-test.false
