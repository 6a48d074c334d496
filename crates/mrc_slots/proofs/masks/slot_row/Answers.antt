use Rattle.std.proofs.Common.{arith}
use Rattle.mrc_wiring.specs.Table.{wiring_of}
use Rattle.mrc_slots.proofs.Marked.{slot_mask}
use Rattle.mrc_slots.proofs.masks.slot_row.Goals as goal

pub returns : goal.returns
returns c =
    slot_mask (wiring_of c.args.wired.now) c.args.to c.args.disp c.join.new.row.items
    c.in_ok-row.row.items c.in_ok-row.ensures (omega arith) c.join.ensures.bits
