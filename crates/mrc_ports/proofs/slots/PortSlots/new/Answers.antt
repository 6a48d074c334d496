use Rattle.mrc_ports.proofs.SlotLaws.{none_kept}
use Rattle.mrc_ports.proofs.slots.PortSlots.new.Goals as goal

pub invariant_of-result : goal.invariant_of-result
invariant_of-result c =
    (none_kept c.new.result.slots c.new-2.result c.new.ensures.empty c.new-2.ensures).0

pub returns : goal.returns
returns c = (none_kept c.new.result.slots c.new-2.result c.new.ensures.empty c.new-2.ensures).1
