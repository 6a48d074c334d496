use Rattle.mrc_transit.proofs.QueueLaws.{QueueIs}
use Rattle.mrc_transit.proofs.queueing.queued_from.Given as goal

-- what is queued and what is left make the whole
abbrev pub invariant-loop-argument : goal.invariant-loop-argument
invariant-loop-argument l =
    QueueIs l.arguments l.items l.left l.queued.items l.argument-index
