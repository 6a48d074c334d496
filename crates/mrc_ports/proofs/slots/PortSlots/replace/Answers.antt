use Rattle.std.proofs.Common.{◌∙◌, sym}
use Rattle.mrc_map.proofs.EntryLaws.{not_some}
use Rattle.mrc_ports.proofs.SlotLaws.{rewritten_at, get_there, get_nowhere, occupied}
use Rattle.mrc_ports.proofs.slots.PortSlots.replace.Goals as goal

pub remove-former-requires : goal.remove-former-requires
remove-former-requires c =
    occupied c.self.inside.slots.slots c.self.inside.order c.args.number c.in-Some.slot
    c.self.invariant (sym c.slot_of.ensures ∙ c.in-Some.is)

pub invariant_of-self : goal.invariant_of-self
invariant_of-self c =
    (rewritten_at c.self.inside.slots c.remove-former.new.self c.insert_reserved.new.self
    c.self.inside.order _ c.args.number c.in-Some.slot c.insert_reserved.result c.args.value
    c.self.invariant c.self.view_is (sym c.slot_of.ensures ∙ c.in-Some.is)
    c.remove-former.ensures.updates
    (c.insert_reserved.ensures.key ∙ c.remove-former.ensures.key_is_next)
    c.insert_reserved.ensures.updates).0

pub unreachable-requires : goal.unreachable-requires
unreachable-requires c =
    not_some _ (get_nowhere c.self.inside.slots.slots c.self.inside.order _ c.args.number
    c.self.view_is (sym c.slot_of.ensures ∙ c.in-None.is)) c.requires

pub returns-clause-out : goal.returns-clause-out
returns-clause-out c =
    sym (get_there c.self.inside.slots.slots c.self.inside.order _ c.args.number c.in-Some.slot _
    c.self.view_is (sym c.slot_of.ensures ∙ c.in-Some.is) c.remove-former.ensures.value)

pub returns-clause-changed : goal.returns-clause-changed
returns-clause-changed c =
    (rewritten_at c.self.inside.slots c.remove-former.new.self c.insert_reserved.new.self
    c.self.inside.order _ c.args.number c.in-Some.slot c.insert_reserved.result c.args.value
    c.self.invariant c.self.view_is (sym c.slot_of.ensures ∙ c.in-Some.is)
    c.remove-former.ensures.updates
    (c.insert_reserved.ensures.key ∙ c.remove-former.ensures.key_is_next)
    c.insert_reserved.ensures.updates).1
