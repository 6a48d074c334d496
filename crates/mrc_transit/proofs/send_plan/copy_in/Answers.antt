use Rattle.std.proofs.Common.{◌≡◌, List, length, sym, ap, subst, ◌∙◌}
use Rattle.std.proofs.lemmas.Result.{err_from_is_err_and}
use Rattle.mrc_model.specs.declared.Item.{Item}
use Rattle.mrc_model.specs.World.{Parcel}
use Rattle.mrc_wiring.specs.Table.{wiring_of}
use Rattle.mrc_ports.specs.Parcels.{AreCarried}
use Rattle.mrc_transit.specs.Queueing.{names_of, queued_from}
use Rattle.mrc_transit.specs.SendPlans.{IsPlanOf, IsReady, with_scratch, judged_as}
use Rattle.mrc_transit.proofs.PlanLaws.{granted}
use Rattle.mrc_transit.proofs.send_plan.copy_in.Goals as goal

pub queued_from-requires : goal.queued_from-requires
queued_from-requires c =
    ap (λ (xs : List Item). length xs) c.items.ensures ∙ c.in-Ok.ensures.many ∙ ap names_of (sym
    c.args-2.ensures.exact)

pub new-parcel-requires : goal.new-parcel-requires
new-parcel-requires c =
    subst AreCarried
    (sym (c.in_ok-arguments.ensures
    ∙ (λ i. queued_from (c.args-2.ensures.exact i) (c.items.ensures i))))
    c.in-Ok.ensures.carried

pub returns-then-not-has_room-clause-refused : goal.returns-then-not-has_room-clause-refused
returns-then-not-has_room-clause-refused c =
    granted (wiring_of c.args.wired.now) c.args.store.now c.args.own c.args.sender
    c.args.message.now (judged_as c.args.sender c.args.message.now c.in-Ok.judged.destination
    c.in-Ok.judged.by_once c.in-Ok.judged.reply c.judge_send.new.scratch) c.in-Ok.ensures.ok

pub returns-in_err-arguments-clause-refused : goal.returns-in_err-arguments-clause-refused
returns-in_err-arguments-clause-refused c =
    let p = err_from_is_err_and c.from_residual.result c.from_residual.ensures.1 in
    rw (p.1, p.2) (granted (wiring_of c.args.wired.now) c.args.store.now c.args.own c.args.sender
    c.args.message.now (judged_as c.args.sender c.args.message.now c.in-Ok.judged.destination
    c.in-Ok.judged.by_once c.in-Ok.judged.reply c.judge_send.new.scratch) c.in-Ok.ensures.ok)

pub returns-in_err-ready-clause-refused : goal.returns-in_err-ready-clause-refused
returns-in_err-ready-clause-refused c =
    let p = err_from_is_err_and c.from_residual-in_err-ready.result
    c.from_residual-in_err-ready.ensures.1 in
    rw (p.1, p.2) (granted (wiring_of c.args.wired.now) c.args.store.now c.args.own c.args.sender
    c.args.message.now (judged_as c.args.sender c.args.message.now c.in-Ok.judged.destination
    c.in-Ok.judged.by_once c.in-Ok.judged.reply c.judge_send.new.scratch) c.in-Ok.ensures.ok)

pub returns-clause-ok : goal.returns-clause-ok
returns-clause-ok c =
    let m = c.args.message.now in
    let k = c.judge_send.new.scratch in
    let parcel : c.in_ok-ready.ready ≡ record {
      by_once = c.in-Ok.judged.by_once;
      id = m.id;
      reply = c.in-Ok.judged.reply;
      args = queued_from m.args k.items;
    } =
    c.in_ok-ready.ensures.ok ∙ c.new-parcel.ensures
    ∙ (λ i. record {
      by_once = c.in-Ok.judged.by_once;
      id = c.header-header.ensures.id i;
      reply = c.in-Ok.judged.reply;
      args = (c.in_ok-arguments.ensures
          ∙ (λ j. queued_from (c.args-2.ensures.exact j) (c.items.ensures j))) i;
    }) in
    subst (λ (p : Parcel). IsPlanOf (wiring_of c.args.wired.now) c.args.store.now c.args.own
    c.args.sender m (with_scratch record {
      sender = c.args.sender;
      destination = c.in-Ok.judged.destination;
      parcel = p;
    } k)) (sym parcel) c.in-Ok.ensures.ok

pub returns-clause-ready : goal.returns-clause-ready
returns-clause-ready c =
    let m = c.args.message.now in
    let k = c.judge_send.new.scratch in
    let parcel : c.in_ok-ready.ready ≡ record {
      by_once = c.in-Ok.judged.by_once;
      id = m.id;
      reply = c.in-Ok.judged.reply;
      args = queued_from m.args k.items;
    } =
    c.in_ok-ready.ensures.ok ∙ c.new-parcel.ensures
    ∙ (λ i. record {
      by_once = c.in-Ok.judged.by_once;
      id = c.header-header.ensures.id i;
      reply = c.in-Ok.judged.reply;
      args = (c.in_ok-arguments.ensures
          ∙ (λ j. queued_from (c.args-2.ensures.exact j) (c.items.ensures j))) i;
    }) in
    subst (λ (p : Parcel). IsReady c.args.store.now (with_scratch record {
      sender = c.args.sender;
      destination = c.in-Ok.judged.destination;
      parcel = p;
    } k)) (sym parcel) (c.in-Ok.ensures.ready c.if-not-has_room.false)
