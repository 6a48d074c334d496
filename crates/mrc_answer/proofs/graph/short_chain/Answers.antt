use Rattle.std.proofs.Common.{subst}
use Rattle.std.specs.Prelude.{IfOk, IfSome, IfNone}
use Rattle.mrc_model.specs.Rules.{Least}
use Rattle.mrc_wiring.specs.Table.{Table, wiring_of}
use Rattle.mrc_closure.specs.Chains.{IsChain}
use Rattle.mrc_answer.proofs.graph.short_chain.Goals as goal

pub returns-clause-some : goal.returns-clause-some
returns-clause-some c =
    subst (λ (t : Table). IfOk c.chain-found.result
    (λ chain. IfSome chain (λ steps. IsChain (wiring_of t) c.args.fact steps.items)))
    c.in_ok-derivations.ensures.table c.chain-found.ensures.some

pub returns-clause-none : goal.returns-clause-none
returns-clause-none c =
    subst (λ (t : Table). IfOk c.chain-found.result
    (λ chain. IfNone chain (Least (wiring_of t) c.args.fact → ⊥)))
    c.in_ok-derivations.ensures.table c.chain-found.ensures.none
