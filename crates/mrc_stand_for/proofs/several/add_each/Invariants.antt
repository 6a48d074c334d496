-- What was added so far.
use Rattle.std.proofs.Common.{◌≡◌, take}
use Rattle.mrc_stand_for.specs.Once.{with_each}
use Rattle.mrc_stand_for.proofs.several.add_each.Given as goal

abbrev pub invariant-loop-item : goal.invariant-loop-item
invariant-loop-item g l = l.list ≡ with_each g.T.Alike.is_same l.fn.list (take l.item-index l.items)
