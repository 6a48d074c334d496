use Rattle.std.proofs.Common.{◌≡◌, subst, arith}
use Rattle.mrc_wiring.specs.Table.{wiring_of}
use Rattle.mrc_model.specs.Wiring.{classes, accepts_replier}
use Rattle.mrc_slots.specs.Masks.{AreMasks}
use Rattle.mrc_slots.proofs.Marked.{no_rows, one_more_row}
use Rattle.mrc_slots.proofs.repliers.replier_rows.Goals as goal

pub loop-to-init : goal.loop-to-init
loop-to-init c =
    let W = wiring_of c.args.wired.now in
    no_rows (accepts_replier W) (classes W) _ c.new-rows.ensures.items

pub loop-to-preserved : goal.loop-to-preserved
loop-to-preserved c =
    let W = wiring_of c.args.wired.now in
    one_more_row (accepts_replier W) (classes W) c.loop-to.to c.loop-to.rows.items
    c.push.new.self.items c.in_ok-row.row c.loop-to.invariant c.in_ok-row.ensures
    c.in_ok-push.ensures.items

pub returns : goal.returns
returns c =
    let W = wiring_of c.args.wired.now in
    let end : c.loop-to.to ≡ classes W = omega arith in
    subst (λ n. AreMasks (accepts_replier W) n (classes W) c.loop-to.rows.items) end
    c.loop-to.invariant.masks
