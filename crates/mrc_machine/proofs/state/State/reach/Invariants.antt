use Rattle.std.proofs.Common.{◌≡◌, ◌≤◌, false, drop}
use Rattle.std.specs.List.{list_any}
use Rattle.mrc_wiring.specs.Table.{wiring_of}
use Rattle.mrc_machine.specs.Holdings.{holdings_of}
use Rattle.mrc_machine.specs.Breaching.{is_new, AreReached, AreHeld, left, left_after}
use Rattle.mrc_machine.proofs.state.State.reach.Given as goal

-- the ports so far are reached; and as long as none was new, one of all is new if and only if one
-- of those that are left is
abbrev pub invariant-loop-holding : goal.invariant-loop-holding
invariant-loop-holding l = record {
  reached : AreReached (wiring_of l.wired) l.self l.class l.ports;
  held : AreHeld l.self (holdings_of (drop l.holding-index l.holdings));
  all : l.more ≡ false
      → list_any (is_new (wiring_of l.wired) l.self l.class l.ports) (holdings_of l.holdings)
      ≡ list_any (is_new (wiring_of l.wired) l.self l.class l.ports)
      (holdings_of (drop l.holding-index l.holdings));
  less : left_after l.more l.ports (holdings_of l.holdings)
      ≤ left l.initial.ports (holdings_of l.holdings);
}
