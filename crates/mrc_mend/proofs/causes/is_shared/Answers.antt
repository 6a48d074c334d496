use Rattle.std.proofs.Common.{rules, List, subst}
use Rattle.std.proofs.lemmas.List.{take_all}
use Rattle.std.proofs.lemmas.List.Elements.{All-more}
use Rattle.mrc_closure.specs.declared.chains.Step.{Step}
use Rattle.mrc_why.specs.Broken.{BrokenLine}
use Rattle.mrc_mend.specs.Causes.{IsConcluded, AreShared}
use Rattle.mrc_mend.proofs.causes.is_shared.Goals as goal

-- one chain more has it
pub loop-line-preserved : goal.loop-line-preserved
loop-line-preserved c =
    let P : BrokenLine → Type 0 = λ b. IsConcluded c.args.fact.now b.steps in
    All-more P c.args.broken.now c.loop-line.line-index c.line-item.result c.loop-line-test.true
    c.loop-line.invariant
    (subst P c.line-item.is
    (subst (λ (ss : List Step). IsConcluded c.args.fact.now ss) c.steps.ensures
    (c.is_concluded.ensures (search rules))))

-- all have been looked at
pub returns : goal.returns
returns c whole =
    subst (λ (bs : List BrokenLine). AreShared bs c.args.fact.now)
    (take_all c.loop-line.line-index c.args.broken.now c.loop-line-test.false)
    c.loop-line.invariant
