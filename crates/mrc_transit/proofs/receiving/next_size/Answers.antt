use Rattle.mrc_transit.proofs.ReceiveNext.{next_over, next_within}
use Rattle.mrc_transit.proofs.receiving.next_size.Goals as goal

pub returns-then-size-limit-clause-ok : goal.returns-then-size-limit-clause-ok
returns-then-size-limit-clause-ok c =
    next_within c.args.store.now c.args.task c.args.name c.args.limit c.in_ok-size.field-0-0
    c.in_ok-size.size c.in_ok-size.ensures.found c.if-size-limit.true

pub returns-clause-ok : goal.returns-clause-ok
returns-clause-ok c =
    next_over c.args.store.now c.args.task c.args.name c.args.limit c.in_ok-size.field-0-0
    c.in_ok-size.size c.in_ok-size.ensures.found c.if-size-limit.false
