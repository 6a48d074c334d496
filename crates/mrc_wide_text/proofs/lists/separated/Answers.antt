-- What the parts say, or the first that says nothing.
use Rattle.std.proofs.Common.{sym, ◌∙◌}
use Rattle.mrc_wide_text.proofs.ListLemmas.{separated_read, separated_refused}
use Rattle.mrc_wide_text.proofs.lists.separated.Goals as goal

pub returns-in-None : goal.returns-in-None
returns-in-None g c =
    sym (separated_refused g.P.Part.meaning _ _ _ _ _ c.deref-part-items.ensures.value
    c.in_ok-parts.ensures c.loop-part-test.true (sym c.in_ok-item.ensures ∙ c.in-None.is))

pub returns : goal.returns
returns g c =
    sym (separated_read g.P.Part.meaning _ _ _ _ _ c.deref-part-items.ensures.value
    c.in_ok-parts.ensures c.loop-part.invariant c.loop-part-test.false)
