use Rattle.std.proofs.Common.{◌≡◌, ap, sym, subst, ◌∙◌}
use Rattle.std.specs.Prelude.{IfOk, IfSome, IfNone}
use Rattle.std.proofs.lemmas.Bool.{false≢true}
use Rattle.mrc_facts.specs.Sets.{has}
use Rattle.mrc_model.specs.Rules.{Least}
use Rattle.mrc_wiring.specs.Table.{Table, wiring_of}
use Rattle.mrc_closure.specs.Chains.{IsChain}
use Rattle.mrc_why.specs.Derived.{Derived}
use Rattle.mrc_why.proofs.derivation.Derivations.chain.Goals as goal

-- every closed set has the fact, and so has the least one
pub returns-then-not-has-clause-none : goal.returns-then-not-has-clause-none
returns-then-not-has-clause-none c = λ in_each.
    let there = in_each (has c.facts.result.now) c.facts.ensures.least.closed in
    false≢true (sym c.if-not-has.true ∙ c.has.ensures ∙ there)

pub returns-clause-some : goal.returns-clause-some
returns-clause-some c =
    let same : c.self.inside.wired.now ≡ c.args.self.now.table = sym c.self.invariant.0
    ∙ ap (λ (d : Derived). d.table) (c.self.view_is ∙ c.in_ok-steps.ensures.kept) in
    subst (λ (t : Table). IfOk c.explained.result (λ answer. IfSome answer (λ steps.
    IsChain (wiring_of t) c.args.fact steps.items))) same c.explained.ensures.some

pub returns-clause-none : goal.returns-clause-none
returns-clause-none c =
    let same : c.self.inside.wired.now ≡ c.args.self.now.table = sym c.self.invariant.0
    ∙ ap (λ (d : Derived). d.table) (c.self.view_is ∙ c.in_ok-steps.ensures.kept) in
    subst (λ (t : Table). IfOk c.explained.result (λ answer. IfNone answer
    (Least (wiring_of t) c.args.fact → ⊥))) same c.explained.ensures.none
