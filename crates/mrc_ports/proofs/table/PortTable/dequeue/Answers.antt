use Rattle.std.proofs.Common.{ap, arith, length}
use Rattle.mrc_ports.proofs.TableLaws.{put_sound}
use Rattle.mrc_ports.proofs.table.PortTable.dequeue.Goals as goal

pub invariant_of-self : goal.invariant_of-self
invariant_of-self c =
    let longest = c.self.inside.longest in
    put_sound c.self.inside.next longest longest c.self.inside.ports c.taken-found.new.ports
    c.replace.new.self c.args.port c.port-2.inside.0 c.taken-found.result
    c.received-parcel.result.1 c.self.invariant c.taken-found.ensures.port
    c.taken-found.ensures.others c.port-2.view_is c.replace.ensures.changed (omega arith)
    (λ h. let more = ap length c.received-parcel.ensures.first in omega arith)
