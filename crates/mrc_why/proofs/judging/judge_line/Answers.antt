use Rattle.std.proofs.Common.{List, refl, subst, inl, inr}
use Rattle.std.specs.Prelude.{IfSome, IfNone}
use Rattle.mrc_base.specs.declared.Fact.{Fact}
use Rattle.mrc_facts.specs.Sets.{has}
use Rattle.mrc_model.specs.Rules.{Least, IsLeast}
use Rattle.mrc_wiring.specs.Table.{wiring_of}
use Rattle.mrc_closure.specs.Chains.{IsChain}
use Rattle.mrc_why.specs.Broken.{forbidden_fact}
use Rattle.mrc_why.proofs.Verdicts.{derived_has, outside_lacks}
use Rattle.mrc_why.proofs.judging.judge_line.Goals as goal

pub returns-in_default-clause-judged : goal.returns-in_default-clause-judged
returns-in_default-clause-judged c =
    let d = c.args.derivations.now in
    let W = wiring_of d.table in
    let least : IsLeast W (has d.facts) = subst (λ (fs : List Fact). IsLeast W (has fs))
    c.facts-least.ensures.exact c.facts-least.ensures.least in
    let none = subst (λ o. IfNone o (Least W c.forbidden_fact.result → ⊥)) c.in_default.is
    c.in_ok-steps.ensures.none in
    inr (
      outside_lacks W d.facts (forbidden_fact c.args.line.now) least
          (subst (λ (f : Fact). Least W f → ⊥) c.forbidden_fact.ensures none),
      refl,
    )

pub returns-clause-judged : goal.returns-clause-judged
returns-clause-judged c =
    let d = c.args.derivations.now in
    let W = wiring_of d.table in
    let least : IsLeast W (has d.facts) = subst (λ (fs : List Fact). IsLeast W (has fs))
    c.facts-least.ensures.exact c.facts-least.ensures.least in
    let some = subst (λ o. IfSome o (λ steps. IsChain W c.forbidden_fact.result steps.items))
    c.in-Some.is c.in_ok-steps.ensures.some in
    let chain : IsChain W (forbidden_fact c.args.line.now) c.in-Some.steps.items = subst
    (λ (f : Fact). IsChain W f c.in-Some.steps.items) c.forbidden_fact.ensures some in
    inl (
      derived_has W d.facts (forbidden_fact c.args.line.now) c.in-Some.steps.items least chain,
      record {
        steps = c.in-Some.steps.items;
        derives = chain;
        pushed = c.in_ok-push.ensures.items;
      },
    )
