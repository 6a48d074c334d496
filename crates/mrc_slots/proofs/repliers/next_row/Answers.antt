use Rattle.std.proofs.Common.{◌∙◌}
use Rattle.std.proofs.lemmas.Result.{IfOk-weaker}
use Rattle.mrc_wiring.specs.Table.{wiring_of}
use Rattle.mrc_model.specs.Wiring.{classes, accepts_replier}
use Rattle.mrc_slots.specs.Masks.{IsMask}
use Rattle.mrc_slots.proofs.Marked.{same_row}
use Rattle.mrc_slots.proofs.Passing.{same_label_replier}
use Rattle.mrc_slots.proofs.repliers.next_row.Goals as goal

-- the copied row is that of the class that accepts the same
pub returns-in-Some : goal.returns-in-Some
returns-in-Some c =
    let W = wiring_of c.args.wired.now in
    let class = c.in-Some.class in
    let to = c.args.to in
    IfOk-weaker c.to_vec.result _ (λ row. IsMask (accepts_replier W to) (classes W) row.items)
    (λ row copied. same_row (accepts_replier W) to (classes W) class to c.args.rows.now row.items
    c.requires.masks c.in-Some.ensures.below (same_label_replier W class to c.in-Some.ensures.alike)
    (copied (λ x y same. same) ∙ c.row_at.ensures))
    c.to_vec.ensures.items_if_clones_equal
