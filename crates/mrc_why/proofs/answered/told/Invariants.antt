use Rattle.std.proofs.Common.{◌≡◌, take}
use Rattle.mrc_facts.specs.Sets.{has}
use Rattle.mrc_why.specs.Answered.{told}
use Rattle.mrc_why.proofs.answered.told.Given as goal

-- those of the demands so far
abbrev pub invariant-loop-demand : goal.invariant-loop-demand
invariant-loop-demand l =
    l.those.items ≡ told (has l.facts) (take l.demand-index l.demands)
