use Rattle.std.proofs.Common.{◌≡◌, take}
use Rattle.mrc_check.specs.Demands.{forbidden_in}
use Rattle.mrc_check.proofs.demands.forbidden_in.Given as goal

-- those of the demands so far
abbrev pub invariant-loop-demand : goal.invariant-loop-demand
invariant-loop-demand l =
    l.lines.items ≡ forbidden_in l.waives (take l.demand-index l.demands)
