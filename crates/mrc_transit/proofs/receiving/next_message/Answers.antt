use Rattle.std.proofs.Common.{sym}
use Rattle.std.proofs.lemmas.Result.{err_from_is_err_and}
use Rattle.mrc_model.specs.Reply.{Refused}
use Rattle.mrc_transit.proofs.ReceiveCalls.{port_at, waits_at, none_at, behind}
use Rattle.mrc_transit.proofs.ReceiveNext.{next_no_space, next_not_found, next_no_port}
use Rattle.mrc_transit.proofs.ReceiveNext.{next_no_message}
use Rattle.mrc_transit.proofs.receiving.next_message.Goals as goal

pub returns-in_default-clause-refused : goal.returns-in_default-clause-refused
returns-in_default-clause-refused c = λ limit.
    next_no_space c.args.store.now c.args.task c.args.name limit (sym c.in_default.ensures)

pub returns-in_err-found-clause-refused : goal.returns-in_err-found-clause-refused
returns-in_err-found-clause-refused c =
    let p = err_from_is_err_and c.from_residual.result c.from_residual.ensures.1 in
    rw (p.1, p.2) (λ limit.
    next_not_found c.args.store.now c.args.task c.args.name limit (Refused c.in_err-found.field-0.0)
    c.in_err-found.ensures.refused)

pub returns-in_default-get-clause-refused : goal.returns-in_default-get-clause-refused
returns-in_default-get-clause-refused c = λ limit.
    next_no_port c.args.store.now c.args.task c.args.name limit c.in_ok-found.found
    c.in_ok-found.ensures.ok (port_at c.args.store.now c.ports.result.now c.in_ok-found.found.1 _
    c.ports.ensures c.in_default-get.ensures)

pub returns-in_default-first-clause-refused : goal.returns-in_default-first-clause-refused
returns-in_default-first-clause-refused c = λ limit.
    next_no_message c.args.store.now c.args.task c.args.name limit c.in_ok-found.found
    c.in_ok-found.ensures.ok c.in-Some-get.port.now
    (port_at c.args.store.now c.ports.result.now c.in_ok-found.found.1 _ c.ports.ensures
    c.in-Some-get.ensures)
    (none_at c.in-Some-get.port.now c.queue.result.now c.queue.ensures c.in_default-first.ensures)

pub returns-clause-found : goal.returns-clause-found
returns-clause-found c = record {
  space = c.in-Some.space.now;
  there = sym c.in-Some.ensures;
  from = c.in_ok-found.ensures.ok;
  port = c.in-Some-get.port.now;
  parcel = c.in-Some-first.parcel.now;
  others = behind c.in-Some-get.port.now.queue;
  waits = record {
    live = port_at c.args.store.now c.ports.result.now c.in_ok-found.found.1 _ c.ports.ensures
        c.in-Some-get.ensures;
    first = waits_at c.in-Some-get.port.now c.queue.result.now c.in-Some-first.parcel.now
        c.queue.ensures c.in-Some-first.ensures;
  };
  sized = c.written_size.ensures.exact;
}
