use Rattle.std.proofs.Common.{arith}
use Rattle.mrc_wiring.specs.Table.{wiring_of}
use Rattle.mrc_slots.proofs.Marked.{either_mask}
use Rattle.mrc_slots.proofs.masks.either_row.Goals as goal

pub returns : goal.returns
returns c =
    either_mask (wiring_of c.args.wired.now) c.args.to c.args.one c.args.other
    c.join-2.new.row.items c.join.new.row.items c.in_ok-row.row.items c.in_ok-row.ensures
    (omega arith) (omega arith) c.join.ensures.bits c.join-2.ensures.bits
