use Rattle.std.proofs.Common.{sym, ◌∙◌, subst, IsTrue}
use Rattle.std.proofs.lemmas.Bool.{false≢true}
use Rattle.mrc_facts.specs.Sets.{has}
use Rattle.mrc_closure.specs.Orders.{Ordered}
use Rattle.mrc_closure.proofs.chains.chain_of.Goals as goal

-- every closed set has the fact, and so has the least one
pub returns-then-not-has-clause-none : goal.returns-then-not-has-clause-none
returns-then-not-has-clause-none c = λ in_each.
    let there = subst (λ (o : Ordered). IsTrue (has o.facts c.args.fact)) (sym c.derived.view_is)
    (in_each (has c.in_ok-derived.derived.facts) c.in_ok-derived.ensures.least.closed) in
    false≢true (sym c.if-not-has.true ∙ c.has.ensures ∙ there)
