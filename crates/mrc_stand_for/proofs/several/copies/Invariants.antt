-- What was added so far.
use Rattle.std.proofs.Common.{◌≡◌, take}
use Rattle.mrc_stand_for.proofs.several.copies.Given as goal

abbrev pub invariant-loop-item : goal.invariant-loop-item
invariant-loop-item g l = l.copies ≡ take l.item-index l.items
