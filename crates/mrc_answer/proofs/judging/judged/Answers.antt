use Rattle.std.proofs.Common.{◌∙◌, ap, subst}
use Rattle.mrc_facts.specs.Sets.{has}
use Rattle.mrc_check.specs.Texts.{Stated}
use Rattle.mrc_why.specs.Answered.{told}
use Rattle.mrc_answer.specs.declared.judging.Judgement.{Judgement}
use Rattle.mrc_answer.specs.Judging.{IsJudged}
use Rattle.mrc_answer.proofs.judging.judged.Goals as goal

pub returns : goal.returns
returns c =
    let v = c.in_ok-verdict.ensures in
    let found : Judgement =
    record { verdict = c.in_ok-verdict.verdict; told = c.in_ok-told.told } in
    subst (λ (s : Stated). IsJudged s found) c.stated.view_is (record {
      least = v.least;
      first = v.exposed;
      reached = v.chain;
      are = v.lines;
      chains = v.chains;
      yes = v.yes;
      no = v.no;
      told_are = c.in_ok-told.ensures
          ∙ ap (told (has c.in_ok-verdict.verdict.facts)) c.as_slice.ensures.value;
    })
