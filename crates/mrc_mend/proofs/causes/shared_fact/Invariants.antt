use Rattle.std.specs.Prelude.{IfSome}
use Rattle.mrc_mend.specs.Causes.{AreShared}
use Rattle.mrc_mend.proofs.causes.shared_fact.Given as goal

abbrev pub invariant-loop-step : goal.invariant-loop-step
invariant-loop-step l = IfSome l.found (AreShared l.broken)
