use Rattle.std.proofs.Common.{◌≡◌, sym, ap, ◌∙◌, subst}
use Rattle.mrc_transit.specs.SendPlans.{SendPlan, Start, sent, IsReady, with_scratch}
use Rattle.mrc_transit.proofs.ApplyLaws.{apply_queued, apply_done}
use Rattle.mrc_transit.proofs.send_plan.SendPlan.apply.Goals as goal

pub put-requires-clause-there : goal.put-requires-clause-there
put-requires-clause-there c =
    (subst (λ (p : Start). IsReady c.args.store.now (with_scratch p c.args.scratch.now))
    (sym c.self.view_is) c.requires).has_space

pub put-requires-clause-rests : goal.put-requires-clause-rests
put-requires-clause-rests c =
    (subst (λ (p : Start). IsReady c.args.store.now (with_scratch p c.args.scratch.now))
    (sym c.self.view_is) c.requires).rests

pub unreachable-requires : goal.unreachable-requires
unreachable-requires c =
    let plan : SendPlan = with_scratch record {
      sender = c.self.inside.sender;
      destination = c.self.inside.destination;
      parcel = c.self.inside.ready;
    } c.args.scratch.now in
    apply_queued c.args.store.now c.put.new.store c.enqueue.new.self plan
    (subst (λ (p : Start). IsReady c.args.store.now (with_scratch p c.args.scratch.now))
    (sym c.self.view_is) c.requires) c.enqueue.result
    c.put.ensures c.enqueue.ensures.queued (sym c.is_err.ensures.value ∙ c.if-is_err.true)

pub returns : goal.returns
returns c =
    let plan : SendPlan = with_scratch record {
      sender = c.self.inside.sender;
      destination = c.self.inside.destination;
      parcel = c.self.inside.ready;
    } c.args.scratch.now in
    apply_done c.args.store.now c.put.new.store c.enqueue.new.self plan
    (subst (λ (p : Start). IsReady c.args.store.now (with_scratch p c.args.scratch.now))
    (sym c.self.view_is) c.requires) c.enqueue.result
    c.put.ensures c.enqueue.ensures.queued
    ∙ ap (λ (p : Start). sent c.args.store.now (with_scratch p c.args.scratch.now)) c.self.view_is
