use Rattle.std.proofs.Common.{subst}
use Rattle.std.specs.Prelude.{IfOk}
use Rattle.mrc_model.specs.Rules.{IsLeast}
use Rattle.mrc_wiring.specs.Table.{Table, wiring_of}
use Rattle.mrc_facts.specs.Sets.{has}
use Rattle.mrc_closure.specs.Orders.{IsOrder}
use Rattle.mrc_closure.proofs.chains.rounds_of.Goals as goal

pub returns-clause-least : goal.returns-clause-least
returns-clause-least c =
    subst (λ (t : Table). IfOk c.derive_all-derived.result (λ r. IsLeast (wiring_of t) (has r.facts)))
    c.in_ok-rules.ensures c.derive_all-derived.ensures.least

pub returns-clause-order : goal.returns-clause-order
returns-clause-order c =
    subst (λ (t : Table). IfOk c.derive_all-derived.result (λ r. IsOrder (wiring_of t) r.order))
    c.in_ok-rules.ensures c.derive_all-derived.ensures.order
