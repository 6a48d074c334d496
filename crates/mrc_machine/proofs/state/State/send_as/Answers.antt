use Rattle.std.proofs.lemmas.Result.{err_from_is_err_and}
use Rattle.mrc_wiring.specs.Table.{wiring_of}
use Rattle.mrc_transit.specs.SendPlans.{with_scratch}
use Rattle.mrc_machine.proofs.HousingLaws.{housed_sent}
use Rattle.mrc_machine.proofs.SentLaws.{sent_done, sent_not}
use Rattle.mrc_machine.proofs.state.State.send_as.Goals as goal

pub apply-requires : goal.apply-requires
apply-requires c = c.in_ok-plan.ensures.ready

pub invariant_of-self-2 : goal.invariant_of-self-2
invariant_of-self-2 c =
    housed_sent c.self.inside.tasks c.self.inside.store c.apply.new.store
    (with_scratch c.in_ok-plan.plan c.copy_in.new.scratch) c.self.invariant
    c.in_ok-plan.ensures.ready c.apply.ensures

pub returns-in_err-plan-clause-refused : goal.returns-in_err-plan-clause-refused
returns-in_err-plan-clause-refused c =
    let p = err_from_is_err_and c.from_residual.result c.from_residual.ensures.1 in
    rw (p.1, p.2) (sent_not (wiring_of c.args.wired.now) c.args.own c.args.task
    c.args.message.now c.self.inside.tasks c.self.inside.store c.args.self.now c.self.view_is
    c.requires c.in_err-plan.field-0.0 c.in_err-plan.ensures.refused)

pub returns-clause-ok : goal.returns-clause-ok
returns-clause-ok c =
    sent_done (wiring_of c.args.wired.now) c.args.own c.args.task c.args.message.now
    c.self.inside.tasks c.self.inside.store c.args.self.now c.self.view_is c.requires
    (with_scratch c.in_ok-plan.plan c.copy_in.new.scratch) c.apply.new.store
    c.in_ok-plan.ensures.ok c.apply.ensures
