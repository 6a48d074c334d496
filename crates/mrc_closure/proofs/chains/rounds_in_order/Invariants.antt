use Rattle.std.proofs.Common.{◌+◌, ◌*◌, ◌-◌, ◌^◌, length}
use Rattle.mrc_wiring.specs.Table.{wiring_of}
use Rattle.mrc_closure.proofs.Keeping.{IsRound, some}
use Rattle.mrc_closure.proofs.Deriving.{IsOrdered}
use Rattle.mrc_closure.proofs.chains.rounds_in_order.Given as goal

-- the order has the facts of the rounds before the last one
abbrev pub invariant-loop-alloc : goal.invariant-loop-alloc
invariant-loop-alloc l = record {
  round : IsRound (wiring_of l.rules) l.facts l.new;
  ordered : IsOrdered (wiring_of l.rules) l.facts l.order.items l.new;
}

-- a round that finds nothing new is the last
abbrev pub decreases-loop-alloc : goal.decreases-loop-alloc
decreases-loop-alloc l = 2 * (2 ^ 32 - length l.facts) + some l.new
