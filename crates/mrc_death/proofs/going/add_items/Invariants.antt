use Rattle.std.proofs.Common.{◌≡◌, ◌++◌, drop}
use Rattle.mrc_model.specs.World.{items_rights}
use Rattle.mrc_death.proofs.going.add_items.Given as goal

abbrev pub invariant-loop-item : goal.invariant-loop-item
invariant-loop-item l =
    l.rights.items ++ items_rights (drop l.item-index l.items)
    ≡ l.fn.rights.items ++ items_rights l.items
