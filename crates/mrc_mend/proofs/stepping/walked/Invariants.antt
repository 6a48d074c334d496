use Rattle.std.proofs.Common.{◌≡◌}
use Rattle.mrc_mend.proofs.stepping.walked.Given as goal

abbrev pub invariant-loop : goal.invariant-loop
invariant-loop g l = l.interfaces ≡ l.fn.interfaces
