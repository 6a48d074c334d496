use Rattle.std.proofs.Common.{◌≡◌}
use Rattle.mrc_mend.specs.Judging.{MendOver}
use Rattle.mrc_mend.proofs.stepping.smaller.Given as goal

abbrev pub invariant-loop-place : goal.invariant-loop-place
invariant-loop-place g l = record {
  kept : l.interfaces ≡ l.fn.interfaces;
  mends : MendOver l.fn.interfaces l.texts l.small.changes.items;
}
