-- The items, or the first part that says none.
use Rattle.std.proofs.Common.{sym, ap, ◌∙◌, Some}
use Rattle.mrc_wide_text.proofs.ItemLemmas.{goes_over, stops_over, ends_over}
use Rattle.mrc_wide_text.proofs.items.items_of.Goals as goal

pub returns-in-None : goal.returns-in-None
returns-in-None c =
    sym (stops_over _ _ _ _ _ _ _ _ c.is_alone.ensures c.if-is_alone.false
    c.deref-part-items.ensures.value c.in_ok-parts.ensures c.loop-part-test.true
    c.loop-part.invariant (sym c.in_ok-item.ensures ∙ c.in-None.is))

pub loop-part-preserved : goal.loop-part-preserved
loop-part-preserved c =
    goes_over _ _ _ _ _ _ _ _ c.loop-part-test.true c.loop-part.invariant
    (sym c.in_ok-item.ensures ∙ c.in-Some.is) c.key_of-next.ensures c.in_ok-push-in-Some.ensures.items

pub returns : goal.returns
returns c =
    ap (λ items. Some items) c.new-2.ensures
    ∙ sym (ends_over _ _ _ _ _ _ _ c.is_alone.ensures c.if-is_alone.false
    c.deref-part-items.ensures.value c.in_ok-parts.ensures c.loop-part-test.false
    c.loop-part.invariant)
