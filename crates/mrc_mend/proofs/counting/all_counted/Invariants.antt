use Rattle.std.proofs.Common.{◌≡◌, ◌+◌, length}
use Rattle.mrc_mend.specs.Judging.{MendOver, AllAre}
use Rattle.mrc_mend.proofs.counting.all_counted.Given as goal

-- what is left and what was counted mends, and none is lost
abbrev pub invariant-loop-mend : goal.invariant-loop-mend
invariant-loop-mend l = record {
  kept : l.interfaces ≡ l.fn.interfaces;
  left : AllAre (MendOver l.fn.interfaces l.texts) l.mends.items;
  done : AllAre (MendOver l.fn.interfaces l.texts) l.counted.items;
  all : length l.counted.items + length l.mends.items ≡ length l.fn.mends.items;
}

abbrev pub decreases-loop-mend : goal.decreases-loop-mend
decreases-loop-mend l = length l.mends.items
