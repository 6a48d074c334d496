use Rattle.std.proofs.Common.{◌≡◌, false}
use Rattle.std.specs.List.{list_any}
use Rattle.mrc_wiring.specs.Table.{wiring_of}
use Rattle.mrc_machine.specs.Holdings.{holdings_of}
use Rattle.mrc_machine.specs.Breaching.{is_new, AreReached, left_after}
use Rattle.mrc_machine.proofs.state.State.reached.Given as goal

-- the ports are reached, and all are there after a pass without a new one
abbrev pub invariant-loop-more : goal.invariant-loop-more
invariant-loop-more l = record {
  reached : AreReached (wiring_of l.wired) l.self l.class l.ports;
  all : l.more ≡ false
      → list_any (is_new (wiring_of l.wired) l.self l.class l.ports) (holdings_of l.holdings)
      ≡ false;
}

abbrev pub decreases-loop-more : goal.decreases-loop-more
decreases-loop-more l = left_after l.more l.ports (holdings_of l.holdings)
