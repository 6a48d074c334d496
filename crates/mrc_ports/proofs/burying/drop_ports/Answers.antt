use Rattle.std.proofs.Common.{ap, ◌∙◌}
use Rattle.mrc_model.specs.Map.{remove}
use Rattle.mrc_ports.proofs.Dropping.{next_gone, all_gone}
use Rattle.mrc_ports.proofs.burying.drop_ports.Goals as goal

pub loop-port-preserved : goal.loop-port-preserved
loop-port-preserved c =
    next_gone c.args.dead.now c.loop-port.last c.in-Some.port c.args.ports.now
    c.loop-port.ports c.remove.new.self c.in-Some.ensures c.loop-port.invariant
    (c.remove.ensures.removed ∙ ap (remove c.loop-port.ports) c.port.view_is)

pub returns : goal.returns
returns c =
    all_gone c.args.dead.now c.loop-port.last c.args.ports.now c.loop-port.ports
    c.in_default.ensures c.loop-port.invariant
