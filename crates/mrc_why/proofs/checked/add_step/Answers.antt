use Rattle.std.proofs.Common.{subst, sym}
use Rattle.std.specs.Prelude.{IfSome}
use Rattle.mrc_wiring.specs.Table.{wiring_of}
use Rattle.mrc_closure.specs.Chains.{IsStep, AreSteps}
use Rattle.mrc_why.proofs.Steps.{step_more}
use Rattle.mrc_why.proofs.checked.add_step.Goals as goal

pub returns : goal.returns
returns c =
    let W = wiring_of c.args.rules.now in
    let new : IsStep W c.as_slice.result.now c.in-Some.step = subst (λ o. IfSome o (IsStep W
    c.as_slice.result.now)) c.in-Some.is c.in_ok-step.ensures in
    λ are. subst (AreSteps W) (sym c.in_ok-push.ensures.items)
    (step_more W c.args.steps.now.items c.in-Some.step
    (subst (λ ss. IsStep W ss c.in-Some.step) c.as_slice.ensures.value new) are)
