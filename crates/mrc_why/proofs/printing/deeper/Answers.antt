use Rattle.std.proofs.Common.{◌+◌, ◌++◌, refl, sym, ap, ◌∙◌}
use Rattle.std.specs.Prelude.{codes}
use Rattle.mrc_why.proofs.TextLaws.{deeper_more}
use Rattle.mrc_why.proofs.printing.deeper.Goals as goal

pub loop-preserved : goal.loop-preserved
loop-preserved c =
    c.in_ok-push_str.ensures.bytes ∙ ap (λ text. text ++ codes "  ") c.loop.invariant
    ∙ sym (deeper_more c.loop.counter (c.loop.counter + 1) refl)
