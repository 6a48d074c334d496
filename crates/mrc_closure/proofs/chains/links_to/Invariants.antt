use Rattle.std.proofs.Common.{length}
use Rattle.mrc_wiring.specs.Table.{wiring_of}
use Rattle.mrc_closure.proofs.Deriving.{IsSearch}
use Rattle.mrc_closure.proofs.chains.links_to.Given as goal

-- the links derive the fact from what is still needed
abbrev pub invariant-loop-next : goal.invariant-loop-next
invariant-loop-next l =
    IsSearch (wiring_of l.rules) l.fn.fact l.facts l.order.items l.needed l.links.items

abbrev pub decreases-loop-next : goal.decreases-loop-next
decreases-loop-next l = length l.order.items
