use Rattle.std.proofs.Common.{◌∙◌, sym, ap}
use Rattle.std.specs.Option.{option_copied}
use Rattle.mrc_ports.proofs.SlotLaws.{get_there, get_nowhere}
use Rattle.mrc_ports.proofs.slots.PortSlots.get.Goals as goal

pub returns-in-Some-get : goal.returns-in-Some-get
returns-in-Some-get c =
    sym (get_there c.self.inside.slots.slots c.self.inside.order _ c.args.number c.in-Some.slot _
    c.self.view_is (sym c.slot_of.ensures ∙ c.in-Some.is)
    (sym c.get.ensures ∙ ap option_copied c.in-Some-get.is))

pub returns-in-None-get : goal.returns-in-None-get
returns-in-None-get c =
    sym (get_there c.self.inside.slots.slots c.self.inside.order _ c.args.number c.in-Some.slot _
    c.self.view_is (sym c.slot_of.ensures ∙ c.in-Some.is)
    (sym c.get.ensures ∙ ap option_copied c.in-None-get.is))

pub returns-in-None : goal.returns-in-None
returns-in-None c =
    sym (get_nowhere c.self.inside.slots.slots c.self.inside.order _ c.args.number c.self.view_is
    (sym c.slot_of.ensures ∙ c.in-None.is))
