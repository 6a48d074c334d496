use Rattle.std.proofs.Common.{◌∙◌, sym, ap}
use Rattle.mrc_ports.proofs.SlotLaws.{added_reserved}
use Rattle.mrc_ports.proofs.slots.PortSlots.add.Goals as goal

pub invariant_of-self-2 : goal.invariant_of-self-2
invariant_of-self-2 c =
    (added_reserved c.self.inside.slots c.reserve.new.self c.insert_reserved.new.self
    c.self.inside.order c.insert.new.self _ c.args.number c.vacant_key.result c.insert_reserved.result c.args.value
    c.self.invariant c.self.view_is c.requires (ap (λ s. s.slots) c.reserve.ensures.rest_kept)
    c.in_ok-insert.ensures.ok (c.insert_reserved.ensures.key ∙ sym c.vacant_key.ensures.value)
    c.insert_reserved.ensures.was_vacant c.insert_reserved.ensures.updates).0

pub returns-clause-ok : goal.returns-clause-ok
returns-clause-ok c =
    (added_reserved c.self.inside.slots c.reserve.new.self c.insert_reserved.new.self
    c.self.inside.order c.insert.new.self _ c.args.number c.vacant_key.result c.insert_reserved.result c.args.value
    c.self.invariant c.self.view_is c.requires (ap (λ s. s.slots) c.reserve.ensures.rest_kept)
    c.in_ok-insert.ensures.ok (c.insert_reserved.ensures.key ∙ sym c.vacant_key.ensures.value)
    c.insert_reserved.ensures.was_vacant c.insert_reserved.ensures.updates).1
