use Rattle.std.proofs.Common.{◌≡◌, length}
use Rattle.mrc_mig_types.specs.Meanings.{within}
use Rattle.mrc_mig_types.proofs.layers.within.Given as goal

abbrev pub invariant-loop-layer : goal.invariant-loop-layer
invariant-loop-layer l = within l.layers.items l.meaning ≡ within l.fn.layers.items l.fn.meaning

abbrev pub decreases-loop-layer : goal.decreases-loop-layer
decreases-loop-layer l = length l.layers.items
