use Rattle.std.proofs.Common.{◌≡◌, IfOk, OnErr, subst}
use Rattle.mrc_machine.specs.Calls.{call_of, reply_of, IsGranted}
use Rattle.mrc_model.specs.Step.{step}
use Rattle.mrc_wiring.specs.Table.{Table, wiring_of}
use Rattle.mrc_confine.proofs.Guarding.{answer_is_guarded}
use Rattle.mrc_confine.proofs.guarded.Guarded.step.Goals as goal

-- the machine's step is that of the wiring that was checked
pub invariant_of-self : goal.invariant_of-self
invariant_of-self c =
    let v = c.self.inside.world in
    let w = c.step.new.self in
    let call = call_of c.args.call.now in
    let steps =
    subst (λ (table : Table). IfOk c.step.result
    (λ reply. step (wiring_of table) v c.args.caller call ≡ (w, reply_of reply)))
    c.wired.ensures.exact c.step.ensures.step in
    answer_is_guarded c.self.inside.confined c.wired.ensures.kept v w c.args.caller call reply_of
    c.step.result steps c.step.ensures.err c.self.invariant

pub returns-clause-step : goal.returns-clause-step
returns-clause-step c =
    rw (← c.self.view_is)
    (subst (λ (table : Table). IfOk c.step.result
    (λ reply. step (wiring_of table) c.self.inside.world c.args.caller
    (call_of c.args.call.now)
    ≡ (c.step.new.self, reply_of reply)))
    c.wired.ensures.exact c.step.ensures.step)

pub returns-clause-last : goal.returns-clause-last
returns-clause-last c =
    rw (← c.self.view_is)
    (subst (λ (table : Table). OnErr c.step.result (IsGranted
    (wiring_of table) c.self.inside.world c.args.caller (call_of c.args.call.now)))
    c.wired.ensures.exact c.step.ensures.last)

pub returns-clause-fits : goal.returns-clause-fits
returns-clause-fits c = rw (← c.self.view_is) c.step.ensures.fits
