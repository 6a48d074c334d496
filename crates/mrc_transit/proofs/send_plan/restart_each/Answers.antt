use Rattle.std.proofs.Common.{sym}
use Rattle.mrc_transit.proofs.ApplyLaws.{restart_done}
use Rattle.mrc_transit.proofs.send_plan.restart_each.Goals as goal

pub returns : goal.returns
returns c =
    sym (restart_done c.args.store.now c.loop-port.store c.loop-port.port-index c.args.moved.now
    c.loop-port.invariant c.loop-port-test.false)
