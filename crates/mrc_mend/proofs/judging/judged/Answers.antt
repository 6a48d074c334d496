use Rattle.std.proofs.Common.{rules, subst}
use Rattle.mrc_why.specs.Broken.{HasYes}
use Rattle.mrc_mend.specs.Judging.{Texts, IfMending, IsYesTo}
use Rattle.mrc_mend.proofs.Verdicts.{mends_over}
use Rattle.mrc_mend.proofs.judging.judged.Goals as goal

-- what is judged is the text with the changes
pub returns-in-Ok-clause-mends : goal.returns-in-Ok-clause-mends
returns-in-Ok-clause-mends c =
    mends_over c.args.interfaces c.args.texts.now c.args.changes.now c.in-Ok.stated
    c.in_ok-verdict-in-Ok.verdict (search rules)
    (subst (λ (texts : Texts). IfMending (IsYesTo texts.only c.in-Ok.stated)
    c.in_ok-verdict-in-Ok.verdict) c.texts.view_is c.in_ok-verdict-in-Ok.ensures)
