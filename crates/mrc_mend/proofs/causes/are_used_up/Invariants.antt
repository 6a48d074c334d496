use Rattle.std.proofs.Common.{take}
use Rattle.std.specs.List.{All}
use Rattle.mrc_mend.specs.Causes.{IsUsedUp}
use Rattle.mrc_mend.proofs.causes.are_used_up.Given as goal

-- the chains so far have no idle step
abbrev pub invariant-loop-line : goal.invariant-loop-line
invariant-loop-line l = All IsUsedUp (take l.line-index l.broken)
