use Rattle.std.proofs.Common.{◌≡◌, [], drop}
use Rattle.mrc_wiring.specs.Labels.{clash_among}
use Rattle.mrc_wiring.proofs.labels.has_clash.Given as goal

-- no clash so far: one among all items is one among those that are left, with the ids that are
-- known
abbrev pub invariant-loop-item : goal.invariant-loop-item
invariant-loop-item l =
    clash_among l.interfaces [] l.items ≡ clash_among l.interfaces l.known.items (drop l.item-index
    l.items)
