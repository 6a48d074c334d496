use Rattle.std.proofs.Common.{◌<◌, ℕ}
use Rattle.mrc_live.specs.Parts.{IsThere}
use Rattle.mrc_live.proofs.finishing.are_all_there.Given as goal

abbrev pub invariant-loop-number : goal.invariant-loop-number
invariant-loop-number g l = (k : ℕ) → k < l.number → IsThere l.seats k
