use Rattle.mrc_wiring.specs.Table.{wiring_of}
use Rattle.mrc_model.specs.Wiring.{classes}
use Rattle.mrc_slots.specs.Masks.{is_taken}
use Rattle.mrc_slots.proofs.Marked.{one_more_row}
use Rattle.mrc_slots.proofs.masks.add_rows.Goals as goal

pub loop-number-preserved : goal.loop-number-preserved
loop-number-preserved c =
    let W = wiring_of c.args.wired.now in
    one_more_row (is_taken W) (classes W) c.loop-number.number c.loop-number.rows.items
    c.push.new.self.items c.in_ok-row.row c.loop-number.invariant c.in_ok-row.ensures
    c.in_ok-push.ensures.items
