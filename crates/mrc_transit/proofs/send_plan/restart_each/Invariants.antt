use Rattle.std.proofs.Common.{◌≡◌, drop}
use Rattle.mrc_transit.specs.Staging.{restart_each}
use Rattle.mrc_transit.proofs.send_plan.restart_each.Given as goal

-- the receipts of the other ports are left
abbrev pub invariant-loop-port : goal.invariant-loop-port
invariant-loop-port l =
    restart_each l.initial.store l.moved ≡ restart_each l.store (drop l.port-index l.moved)
