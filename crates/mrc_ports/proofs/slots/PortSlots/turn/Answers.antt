use Rattle.std.proofs.Common.{rules}
use Rattle.mrc_ports.specs.Burials.{left_of}
use Rattle.mrc_ports.proofs.SlotLaws.{turned_kept, turned_values}
use Rattle.mrc_ports.proofs.slots.PortSlots.turn.Goals as goal

pub invariant_of-self : goal.invariant_of-self
invariant_of-self c =
    turned_kept _ (left_of c.args.dead.now) _ c.self.inside.order c.args.self.now
    c.self.inside.slots.slots c.retain.new.self.slots (λ k v w b f h. search rules)
    c.retain.ensures.retained c.self.invariant c.self.view_is

pub returns : goal.returns
returns c =
    turned_values _ (left_of c.args.dead.now) _ c.self.inside.order c.args.self.now
    c.self.inside.slots.slots c.retain.new.self.slots (λ k v w b f h. search rules)
    c.retain.ensures.retained c.self.invariant c.self.view_is
