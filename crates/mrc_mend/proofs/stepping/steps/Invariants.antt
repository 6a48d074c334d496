use Rattle.std.proofs.Common.{◌≡◌}
use Rattle.mrc_mend.specs.Judging.{MendOver, AllAre}
use Rattle.mrc_mend.proofs.stepping.steps.Given as goal

abbrev pub invariant-loop-start : goal.invariant-loop-start
invariant-loop-start g l = record {
  kept : l.interfaces ≡ l.fn.interfaces;
  mends : AllAre (MendOver l.fn.interfaces l.texts) l.found.items;
}
