use Rattle.std.proofs.Common.{◌≡◌, drop}
use Rattle.mrc_why.specs.Answered.{has_line}
use Rattle.mrc_why.proofs.answered.line_in.Given as goal

-- none so far: whether one of those that are left is of the line
abbrev pub invariant-loop-demand : goal.invariant-loop-demand
invariant-loop-demand l =
    has_line (drop l.demand-index l.demands) l.number ≡ has_line l.demands l.number
