-- The calls of the lines so far.
use Rattle.std.proofs.Common.{take}
use Rattle.mrc_attack.specs.Leaks.{IsEnd}
use Rattle.mrc_attack.proofs.judging.end_of.Given as goal

abbrev pub invariant-loop-line : goal.invariant-loop-line
invariant-loop-line l = IsEnd l.wired (take l.line-index l.line-items) l.world
