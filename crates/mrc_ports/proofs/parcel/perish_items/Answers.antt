use Rattle.std.proofs.Common.{ap, sym, ◌∙◌, slice_set}
use Rattle.std.proofs.lemmas.List.Edits.{map_over_more}
use Rattle.mrc_model.specs.Death.{perished_item}
use Rattle.mrc_ports.proofs.parcel.perish_items.Goals as goal

pub loop-item-preserved : goal.loop-item-preserved
loop-item-preserved c =
    ap (slice_set c.loop-item.items c.loop-item.item-index) c.perish_item.ensures
    ∙ ap (λ x. slice_set c.loop-item.items c.loop-item.item-index (perished_item c.args.dead.now x))
    (sym c.item-item.is)
    ∙ map_over_more (perished_item c.args.dead.now) c.args.items.now c.loop-item.items
    c.loop-item.item-index c.item-item.result c.loop-item-test.true c.loop-item.invariant
    c.item-item.is
