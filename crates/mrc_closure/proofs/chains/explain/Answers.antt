use Rattle.std.proofs.Common.{subst}
use Rattle.std.specs.Prelude.{IfOk, IfSome, IfNone}
use Rattle.mrc_model.specs.Rules.{Least}
use Rattle.mrc_wiring.specs.Table.{Table, wiring_of}
use Rattle.mrc_closure.specs.Chains.{IsChain}
use Rattle.mrc_closure.proofs.chains.explain.Goals as goal

pub returns-clause-some : goal.returns-clause-some
returns-clause-some c =
    subst (λ (t : Table). IfOk c.chain_of-chain.result (λ answer. IfSome answer (λ chain.
    IsChain (wiring_of t) c.args.fact chain))) c.in_ok-rules.ensures c.chain_of-chain.ensures.some

pub returns-clause-none : goal.returns-clause-none
returns-clause-none c =
    subst (λ (t : Table). IfOk c.chain_of-chain.result (λ answer. IfNone answer
    (Least (wiring_of t) c.args.fact → ⊥))) c.in_ok-rules.ensures c.chain_of-chain.ensures.none
