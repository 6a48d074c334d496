use Rattle.std.proofs.Common.{◌∙◌, sym, ap}
use Rattle.mrc_model.specs.Map.{len}
use Rattle.mrc_ports.proofs.SlotLaws.{len_values}
use Rattle.mrc_ports.proofs.slots.PortSlots.len.Goals as goal

pub returns : goal.returns
returns c =
    c.len.ensures ∙ sym (len_values c.self.inside.slots.slots c.self.inside.order c.self.invariant)
    ∙ ap len c.self.view_is
