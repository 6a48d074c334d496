use Rattle.std.proofs.Common.{rules, List, subst}
use Rattle.std.specs.List.{All}
use Rattle.std.proofs.lemmas.List.{take_all}
use Rattle.std.proofs.lemmas.List.Elements.{All-more}
use Rattle.mrc_closure.specs.declared.chains.Step.{Step}
use Rattle.mrc_why.specs.Broken.{BrokenLine}
use Rattle.mrc_mend.specs.Causes.{HaveNoIdle, IsUsedUp}
use Rattle.mrc_mend.proofs.causes.are_used_up.Goals as goal

-- one chain more has none
pub loop-line-preserved : goal.loop-line-preserved
loop-line-preserved c =
    All-more IsUsedUp c.args.broken.now c.loop-line.line-index c.line-item.result
    c.loop-line-test.true c.loop-line.invariant
    (subst IsUsedUp c.line-item.is
    (subst HaveNoIdle c.steps.ensures (c.have_no_idle.ensures (search rules))))

-- all have been looked at
pub returns : goal.returns
returns c whole =
    subst (λ (bs : List BrokenLine). All IsUsedUp bs)
    (take_all c.loop-line.line-index c.args.broken.now c.loop-line-test.false)
    c.loop-line.invariant
