use Rattle.std.proofs.Common.{◌≡◌, ◌*◌, subst, arith}
use Rattle.mrc_wiring.specs.Table.{wiring_of}
use Rattle.mrc_model.specs.Wiring.{classes}
use Rattle.mrc_slots.specs.Masks.{AreMasks, is_taken}
use Rattle.mrc_slots.proofs.Marked.{no_rows}
use Rattle.mrc_slots.proofs.masks.taken_rows.Goals as goal

pub loop-class-init : goal.loop-class-init
loop-class-init c =
    let W = wiring_of c.args.wired.now in
    no_rows (is_taken W) (classes W) _ c.new-rows.ensures.items

pub returns : goal.returns
returns c =
    let W = wiring_of c.args.wired.now in
    let end : 9 * c.loop-class.class ≡ 9 * classes W = omega arith in
    subst (λ n. AreMasks (is_taken W) n (classes W) c.loop-class.rows.items) end
    c.loop-class.invariant.masks
