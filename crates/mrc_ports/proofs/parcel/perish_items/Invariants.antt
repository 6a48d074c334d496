use Rattle.std.proofs.Common.{◌≡◌, ◌++◌, map, take, drop}
use Rattle.mrc_model.specs.Death.{perished_item}
use Rattle.mrc_ports.proofs.parcel.perish_items.Given as goal

abbrev pub invariant-loop-item : goal.invariant-loop-item
invariant-loop-item l =
    l.items ≡ map (perished_item l.dead) (take l.item-index l.fn.items) ++ drop l.item-index
    l.fn.items
