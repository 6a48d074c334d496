use Rattle.std.proofs.Common.{take}
use Rattle.mrc_closure.proofs.Barring.{IsFewer}
use Rattle.mrc_closure.proofs.barred.bar.Given as goal

-- the barred facts so far were removed
abbrev pub invariant-loop-fact : goal.invariant-loop-fact
invariant-loop-fact l = IsFewer (take l.fact-index l.barred) l.fn.found l.found
