use Rattle.std.proofs.Common.{take}
use Rattle.mrc_mend.specs.Causes.{AreShared}
use Rattle.mrc_mend.proofs.causes.is_shared.Given as goal

-- the chains so far have the fact
abbrev pub invariant-loop-line : goal.invariant-loop-line
invariant-loop-line l = AreShared (take l.line-index l.broken) l.fact
