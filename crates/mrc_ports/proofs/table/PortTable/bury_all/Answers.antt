use Rattle.mrc_ports.proofs.TableLaws.{buried_sound}
use Rattle.mrc_ports.proofs.table.PortTable.bury_all.Goals as goal

pub invariant_of-self : goal.invariant_of-self
invariant_of-self c =
    buried_sound c.self.inside.next c.self.inside.longest c.args.dead.now c.self.inside.ports
    c.bury_ports.new.ports c.self.invariant c.bury_ports.ensures
