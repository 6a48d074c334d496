use Rattle.std.proofs.Common.{ap, ◌∙◌}
use Rattle.mrc_wiring.specs.Marks.{words_at}
use Rattle.mrc_wiring.proofs.MarkLaws.{words_push}
use Rattle.mrc_wiring.proofs.marks.reach.Goals as goal

-- a new row has no words
pub loop-alloc-preserved : goal.loop-alloc-preserved
loop-alloc-preserved c = λ k.
    ap (λ rows. words_at rows k) c.in_ok-push.ensures.items
    ∙ (words_push c.loop-alloc.rows.items c.new.result c.new.ensures.items k
    ∙ c.loop-alloc.invariant k)
