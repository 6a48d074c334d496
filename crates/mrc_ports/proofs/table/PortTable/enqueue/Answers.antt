use Rattle.std.proofs.Common.{◌≤◌, ap, ◌∙◌, subst, length}
use Rattle.mrc_ports.proofs.TableLaws.{put_sound}
use Rattle.mrc_ports.proofs.table.PortTable.enqueue.Goals as goal

pub invariant_of-self : goal.invariant_of-self
invariant_of-self c =
    put_sound c.self.inside.next c.self.inside.longest c.longer-self-inside.result
    c.self.inside.ports
    c.taken-found.new.ports c.replace.new.self c.args.port c.port-2.inside.0 c.taken-found.result
    c.with_message-filled.result c.self.invariant c.taken-found.ensures.port
    c.taken-found.ensures.others
    c.port-2.view_is c.replace.ensures.changed c.longer-self-inside.ensures.first
    (λ h. subst (λ n. n ≤ c.longer-self-inside.result) (c.len.ensures ∙ ap length c.queue.ensures)
    c.longer-self-inside.ensures.other)
