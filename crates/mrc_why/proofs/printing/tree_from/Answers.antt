use Rattle.std.proofs.Common.{refl, ◌+◌, ◌∙◌}
use Rattle.std.specs.Prelude.{string_bytes}
use Rattle.mrc_why.proofs.TextLaws.{tree_more_at}
use Rattle.mrc_why.proofs.printing.tree_from.Goals as goal

pub loop-place-preserved : goal.loop-place-preserved
loop-place-preserved c =
    tree_more_at c.args.blanks.now c.args.wired.now c.args.steps.now c.args.sources.now
    c.args.lines.now c.loop-place.place (c.loop-place.place + 1) _ c.loop-place-test.true refl
    (string_bytes c.loop-place.text) c.as_str.result.now (string_bytes c.push_str.new.self)
    c.loop-place.invariant (c.as_str.ensures.value ∙ c.in_ok-told.ensures)
    c.in_ok-push_str.ensures.bytes
