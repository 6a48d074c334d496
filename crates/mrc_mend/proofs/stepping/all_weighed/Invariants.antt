use Rattle.std.proofs.Common.{◌≡◌}
use Rattle.mrc_mend.proofs.stepping.all_weighed.Given as goal

abbrev pub invariant-loop-changes : goal.invariant-loop-changes
invariant-loop-changes g l = l.interfaces ≡ l.fn.interfaces
