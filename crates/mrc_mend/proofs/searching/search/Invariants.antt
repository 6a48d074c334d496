use Rattle.std.proofs.Common.{◌≡◌}
use Rattle.mrc_mend.specs.Judging.{MendOver, AllAre}
use Rattle.mrc_mend.proofs.searching.search.Given as goal

-- the interfaces are unchanged, and what was found mends over them
abbrev pub invariant-loop : goal.invariant-loop
invariant-loop g l = record {
  kept : l.interfaces ≡ l.fn.interfaces;
  mends : AllAre (MendOver l.fn.interfaces l.texts) l.found.items;
}
