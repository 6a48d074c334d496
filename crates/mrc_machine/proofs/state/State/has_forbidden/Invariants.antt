use Rattle.std.proofs.Common.{◌≡◌, drop}
use Rattle.std.specs.List.{list_any}
use Rattle.mrc_wiring.specs.Claims.{holding_of as forbidden_of}
use Rattle.mrc_machine.specs.Holdings.{holdings_of}
use Rattle.mrc_machine.specs.Breaching.{breaks}
use Rattle.mrc_machine.proofs.state.State.has_forbidden.Given as goal

-- whether one of all is, is whether one of those that are left is
abbrev pub invariant-loop-holding : goal.invariant-loop-holding
invariant-loop-holding l =
    list_any (breaks l.self (forbidden_of l.line) l.ports) (holdings_of l.holdings)
    ≡ list_any (breaks l.self (forbidden_of l.line) l.ports)
    (holdings_of (drop l.holding-index l.holdings))
