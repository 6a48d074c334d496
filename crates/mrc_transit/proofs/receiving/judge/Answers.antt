use Rattle.mrc_model.specs.Reply.{Refused}
use Rattle.mrc_transit.proofs.ReceiveCalls.{is_small}
use Rattle.mrc_transit.proofs.ReceiveNext.{next_refused, next_too_large}
use Rattle.mrc_transit.proofs.receiving.judge.Goals as goal

pub returns-in-Err-clause-refused : goal.returns-in-Err-clause-refused
returns-in-Err-clause-refused c = λ tasks.
    next_refused (record { tasks = tasks; store = c.args.store.now }) c.args.task c.args.name
    c.args.limit (Refused c.in-Err.code) (c.in-Err.ensures.refused c.args.limit)

pub returns-then-limit-size-clause-refused : goal.returns-then-limit-size-clause-refused
returns-then-limit-size-clause-refused c = λ tasks.
    next_too_large (record { tasks = tasks; store = c.args.store.now }) c.args.task c.args.name
    c.args.limit c.in-Ok.next.0 c.in-Ok.next.1 c.in-Ok.ensures.found c.if-limit-size.true

pub returns-clause-found : goal.returns-clause-found
returns-clause-found c =
    let next = c.in-Ok.ensures.found in
    record {
      size = c.in-Ok.next.1;
      next = next;
      fits = is_small c.args.limit c.in-Ok.next.1 _ next.sized c.if-limit-size.false;
    }
