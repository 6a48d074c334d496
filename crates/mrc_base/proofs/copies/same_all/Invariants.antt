use Rattle.std.proofs.Common.{◌≡◌, take}
use Rattle.mrc_base.proofs.copies.same_all.Given as goal

abbrev pub invariant-loop-i : goal.invariant-loop-i
invariant-loop-i g l = take l.i l.values ≡ take l.i l.others
