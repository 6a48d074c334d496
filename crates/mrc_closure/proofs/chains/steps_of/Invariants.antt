use Rattle.std.proofs.Common.{length, []}
use Rattle.mrc_base.specs.declared.Fact.{Fact}
use Rattle.mrc_model.specs.Wiring.{Wiring}
use Rattle.mrc_model.specs.Rules.{IsDerivation}
use Rattle.mrc_closure.specs.Orders.{backward}
use Rattle.mrc_closure.proofs.Placing.{IsPlacing}
use Rattle.mrc_closure.proofs.chains.steps_of.Given as goal

-- the links that are left derive the fact from what the steps conclude
abbrev pub invariant-loop-link : goal.invariant-loop-link
invariant-loop-link l =
    (W : Wiring) (f : Fact) → IsDerivation W (backward l.fn.links.items []) f
    → IsPlacing W f l.left.items l.steps.items

abbrev pub decreases-loop-link : goal.decreases-loop-link
decreases-loop-link l = length l.left.items
