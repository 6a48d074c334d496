use Rattle.std.proofs.Common.{subst, sym}
use Rattle.mrc_wiring.specs.Table.{wiring_of}
use Rattle.mrc_closure.specs.Chains.{AreSteps}
use Rattle.mrc_why.proofs.Steps.{no_steps}
use Rattle.mrc_why.proofs.checked.steps_by.Goals as goal

pub loop-proposal-init : goal.loop-proposal-init
loop-proposal-init c =
    let W = wiring_of c.args.rules.now in
    subst (AreSteps W) (sym c.new-steps.ensures.items) (no_steps W)
