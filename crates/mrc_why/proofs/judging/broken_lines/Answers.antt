use Rattle.std.proofs.Common.{subst, ◌∙◌}
use Rattle.mrc_why.specs.Broken.{IsJudged}
use Rattle.mrc_why.specs.Derived.{Derived}
use Rattle.mrc_why.proofs.Verdicts.{judged, all_judged}
use Rattle.mrc_why.proofs.judging.broken_lines.Goals as goal

pub loop-line-preserved : goal.loop-line-preserved
loop-line-preserved c =
    let at = c.loop-line.invariant in
    let next = judged c.args.derivations.now c.args.lines.now c.loop-line.line-index
    c.line-item.result c.loop-line.broken.items c.judge_line.new.broken.items
    c.loop-line-test.true c.line-item.is
    (subst (λ (d : Derived). IsJudged d c.line-item.result c.loop-line.broken.items
    c.judge_line.new.broken.items) at.kept c.in_ok-judge_line.ensures.judged)
    at.lines at.chains in
    record {
      kept = c.in_ok-judge_line.ensures.kept ∙ at.kept;
      lines = next.0;
      chains = next.1;
    }

pub returns-clause-lines : goal.returns-clause-lines
returns-clause-lines c =
    all_judged c.args.derivations.now c.args.lines.now c.loop-line.line-index
    c.loop-line.broken.items c.loop-line-test.false c.loop-line.invariant.lines
