use Rattle.std.proofs.Common.{◌∙◌, sym}
use Rattle.mrc_ports.proofs.SlotLaws.{removed_from, removed_none, get_there, get_nowhere, occupied}
use Rattle.mrc_ports.proofs.slots.PortSlots.remove.Goals as goal

pub remove-requires-in-Some : goal.remove-requires-in-Some
remove-requires-in-Some c =
    occupied c.self.inside.slots.slots c.self.inside.order c.args.number c.in-Some.slot
    c.self.invariant (sym c.remove.ensures.out ∙ c.in-Some.is)

pub invariant_of-self : goal.invariant_of-self
invariant_of-self c =
    (removed_from c.self.inside.slots c.remove-in-Some.new.self c.self.inside.order
    c.remove.new.self _ c.args.number c.in-Some.slot c.self.invariant c.self.view_is
    (sym c.remove.ensures.out ∙ c.in-Some.is) c.remove.ensures.removed
    c.remove-in-Some.ensures.updates).0

pub invariant_of-self-in-None : goal.invariant_of-self-in-None
invariant_of-self-in-None c =
    (removed_none c.self.inside.slots.slots c.self.inside.order c.remove.new.self _ c.args.number
    c.self.invariant c.self.view_is (sym c.remove.ensures.out ∙ c.in-None.is)
    c.remove.ensures.removed).0

pub returns-in-Some-clause-out : goal.returns-in-Some-clause-out
returns-in-Some-clause-out c =
    sym (get_there c.self.inside.slots.slots c.self.inside.order _ c.args.number c.in-Some.slot _
    c.self.view_is (sym c.remove.ensures.out ∙ c.in-Some.is) c.remove-in-Some.ensures.value)

pub returns-in-Some-clause-removed : goal.returns-in-Some-clause-removed
returns-in-Some-clause-removed c =
    (removed_from c.self.inside.slots c.remove-in-Some.new.self c.self.inside.order
    c.remove.new.self _ c.args.number c.in-Some.slot c.self.invariant c.self.view_is
    (sym c.remove.ensures.out ∙ c.in-Some.is) c.remove.ensures.removed
    c.remove-in-Some.ensures.updates).1

pub returns-in-None-clause-out : goal.returns-in-None-clause-out
returns-in-None-clause-out c =
    sym (get_nowhere c.self.inside.slots.slots c.self.inside.order _ c.args.number c.self.view_is
    (sym c.remove.ensures.out ∙ c.in-None.is))

pub returns-in-None-clause-removed : goal.returns-in-None-clause-removed
returns-in-None-clause-removed c =
    (removed_none c.self.inside.slots.slots c.self.inside.order c.remove.new.self _ c.args.number
    c.self.invariant c.self.view_is (sym c.remove.ensures.out ∙ c.in-None.is)
    c.remove.ensures.removed).1
