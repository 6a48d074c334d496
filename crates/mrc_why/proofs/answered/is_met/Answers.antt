use Rattle.std.proofs.Common.{◌∙◌, ap, subst, sym}
use Rattle.mrc_facts.specs.Sets.{has}
use Rattle.mrc_check.specs.Texts.{Stated}
use Rattle.mrc_why.specs.Answered.{IsMet, are_met, told}
use Rattle.mrc_why.proofs.Verdicts.{met_of_each}
use Rattle.mrc_why.proofs.answered.is_met.Goals as goal

pub returns : goal.returns
returns c =
    subst (IsMet c.args.stated.now) (sym (c.are_met.ensures ∙ ap are_met c.as_slice-2.ensures.value))
    (met_of_each c.args.stated.now c.args.facts.now c.in_ok-told.told.items c.requires
    (c.in_ok-told.ensures ∙ ap (told (has c.args.facts.now))
    (c.as_slice.ensures.value ∙ ap (λ (s : Stated). s.demands) c.stated.view_is)))
