-- What the steps so far conclude, with what those that are left conclude, is what all conclude.
use Rattle.std.proofs.Common.{◌≡◌, ◌++◌, drop, map}
use Rattle.mrc_closure.specs.declared.chains.Step.{Step}
use Rattle.mrc_answer.proofs.graph.step_facts.Given as goal

abbrev pub invariant-loop-step : goal.invariant-loop-step
invariant-loop-step l =
    l.facts.items ++ map (λ (s : Step). s.fact) (drop l.step-index l.steps)
    ≡ map (λ (s : Step). s.fact) l.steps
