use Rattle.std.proofs.Common.{map, string_bytes, ap, ◌∙◌}
use Rattle.mrc_facts.specs.Sets.{has}
use Rattle.mrc_check.specs.Texts.{Stated}
use Rattle.mrc_answer.proofs.NoticeLaws.{by_parts}
use Rattle.mrc_answer.proofs.gathering.notices_with.Goals as goal

pub returns : goal.returns
returns c =
    by_parts c.args.files.now (has c.args.facts.now) (map string_bytes c.args.trusted.items)
    c.as_slice-lines.result.now c.stated.inside.claim c.in_ok-demands.demands c.args.stated.now
    c.notices_by.result
    (c.as_slice-lines.ensures.value ∙ ap (λ (s : Stated). s.lines) c.stated.view_is)
    (ap (λ (s : Stated). s.claim) c.stated.view_is)
    c.in_ok-demands.ensures c.notices_by.ensures
