use Rattle.std.proofs.Common.{ap, ◌∙◌}
use Rattle.std.specs.Prelude.{string_bytes}
use Rattle.mrc_why.specs.Texts.{step_line}
use Rattle.mrc_why.proofs.TextLaws.{lines_more}
use Rattle.mrc_why.proofs.printing.lines_text.Goals as goal

pub loop-place-preserved : goal.loop-place-preserved
loop-place-preserved c =
    lines_more c.args.blanks.now c.args.wired.now c.args.sources.now c.args.steps.now
    c.loop-place.place c.index-steps-place.result c.loop-place-test.true c.index-steps-place.is
    (string_bytes c.loop-place.text) c.as_str.result.now (string_bytes c.push_str.new.self)
    c.loop-place.invariant
    (c.as_str.ensures.value ∙ c.in_ok-line.ensures
    ∙ ap (step_line c.args.blanks.now c.args.wired.now c.loop-place.place
    c.index-steps-place.result) c.source_at.ensures)
    c.in_ok-push_str.ensures.bytes
