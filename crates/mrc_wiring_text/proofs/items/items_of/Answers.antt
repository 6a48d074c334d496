-- The items, or the first part that says none.
use Rattle.std.proofs.Common.{sym, ◌∙◌}
use Rattle.mrc_wiring_text.proofs.ItemLemmas.{items_read, items_refused}
use Rattle.mrc_wiring_text.proofs.items.items_of.Goals as goal

pub returns-in-None : goal.returns-in-None
returns-in-None c =
    sym (items_refused _ _ _ _ _ _ c.is_none.ensures c.if-is_none.false
    c.deref-part-items.ensures.value c.in_ok-parts.ensures c.loop-part-test.true
    (sym (c.in_ok-item.ensures) ∙ c.in-None.is))

pub returns : goal.returns
returns c =
    sym (items_read _ _ _ _ _ _ c.is_none.ensures c.if-is_none.false
    c.deref-part-items.ensures.value c.in_ok-parts.ensures c.loop-part.invariant
    c.loop-part-test.false)
