-- What was added so far.
use Rattle.std.proofs.Common.{◌≡◌, take}
use Rattle.mrc_stand_for.proofs.several.copy_items.Given as goal

abbrev pub invariant-loop-item : goal.invariant-loop-item
invariant-loop-item l = l.copies.items ≡ take l.item-index l.item-items
