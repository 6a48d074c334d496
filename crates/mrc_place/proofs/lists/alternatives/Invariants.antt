-- Each step takes one from what is left.
use Rattle.std.proofs.Common.{length}
use Rattle.mrc_place.proofs.lists.alternatives.Given as goal

abbrev pub decreases-loop-rest : goal.decreases-loop-rest
decreases-loop-rest l = length l.rest
