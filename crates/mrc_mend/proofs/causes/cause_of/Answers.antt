use Rattle.std.proofs.Common.{List, subst}
use Rattle.std.specs.Prelude.{IfOk, IfSome}
use Rattle.std.proofs.lemmas.Result.{IfOk-weaker}
use Rattle.mrc_why.specs.Broken.{BrokenLine}
use Rattle.mrc_mend.specs.Causes.{IsCauseOf}
use Rattle.mrc_mend.proofs.CauseLaws.{cause_of_claim}
use Rattle.mrc_mend.proofs.causes.cause_of.Goals as goal

pub returns : goal.returns
returns c =
    let claim = c.args.claim.now in
    let found = c.in_ok-verdict in
    IfOk-weaker c.cause_of_lines-cause.result _ _
    (cause_of_claim claim found.verdict.broken.items found.ensures.lines found.ensures.chains)
    (subst (λ (bs : List BrokenLine). IfOk c.cause_of_lines-cause.result
    (λ cause. IfSome cause (IsCauseOf claim.table bs)))
    c.deref.ensures.value c.cause_of_lines-cause.ensures)
