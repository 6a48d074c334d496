use Rattle.mrc_wiring.specs.Table.{wiring_of}
use Rattle.mrc_closure.specs.Chains.{AreSteps}
use Rattle.mrc_why.proofs.checked.steps_by.Given as goal

-- the steps so far are such
abbrev pub invariant-loop-proposal : goal.invariant-loop-proposal
invariant-loop-proposal l = AreSteps (wiring_of l.rules) l.steps.items
