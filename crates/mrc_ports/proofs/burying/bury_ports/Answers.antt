use Rattle.mrc_ports.proofs.Dropping.{left_map}
use Rattle.mrc_ports.proofs.burying.bury_ports.Goals as goal

pub returns : goal.returns
returns c =
    left_map c.args.dead.now c.args.ports.now c.drop_ports.new.ports c.turn.new.self
    c.drop_ports.ensures c.turn.ensures
