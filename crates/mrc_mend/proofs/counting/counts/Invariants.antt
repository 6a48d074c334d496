use Rattle.std.proofs.Common.{◌≡◌}
use Rattle.mrc_mend.proofs.counting.counts.Given as goal

abbrev pub invariant-loop-count : goal.invariant-loop-count
invariant-loop-count l = l.interfaces ≡ l.fn.interfaces
