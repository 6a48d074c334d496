use Rattle.std.proofs.Common.{inl, subst}
use Rattle.mrc_check.specs.Texts.{Stated}
use Rattle.mrc_why.specs.Broken.{HasNoYes}
use Rattle.mrc_mend.specs.Judging.{Texts, of_line}
use Rattle.mrc_mend.proofs.answers.answered.Goals as goal

-- a fact of the least set is objected to
pub returns-clause-needed : goal.returns-clause-needed
returns-clause-needed g c =
    inl (subst (λ (texts : Texts). HasNoYes (of_line texts.only c.args.first.now.claim))
    c.texts.view_is
    (subst (λ (stated : Stated). HasNoYes (of_line c.texts.inside.only stated.claim))
    c.first.view_is (rw c.in-Some.is at c.in_ok-objection.ensures.no)))
