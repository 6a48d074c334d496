use Rattle.std.proofs.Common.{ap}
use Rattle.mrc_model.specs.World.{Port}
use Rattle.mrc_ports.proofs.TableLaws.{kept_sound}
use Rattle.mrc_ports.proofs.table.PortTable.set_limit.Goals as goal

pub invariant_of-self : goal.invariant_of-self
invariant_of-self c =
    kept_sound c.self.inside.next c.self.inside.longest c.self.inside.ports c.taken-found.new.ports
    c.replace.new.self c.args.port c.port-2.inside.0 c.taken-found.result c.limited.result
    c.self.invariant c.taken-found.ensures.port c.taken-found.ensures.others c.port-2.view_is
    c.replace.ensures.changed
    (ap (λ (x : Port). x.queue) c.limited.ensures)
