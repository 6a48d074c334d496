use Rattle.std.proofs.Common.{◌∙◌, ◌≡◌, ◌/◌, ◌<◌, ℕ, Option, IfSome, ap, subst}
use Rattle.std.proofs.lemmas.Result.{IfOk-weaker}
use Rattle.mrc_rows.specs.Rows.{words_of}
use Rattle.mrc_wiring.specs.Table.{wiring_of}
use Rattle.mrc_model.specs.Wiring.{classes, label}
use Rattle.mrc_slots.specs.Masks.{IsMask, is_taken, right_at, row_number}
use Rattle.mrc_slots.proofs.Marked.{same_row, alike_taken, alike_below}
use Rattle.mrc_slots.proofs.masks.next_row.Goals as goal

-- the copied row is that of the right on the class that accepts the same
pub returns-in-Some : goal.returns-in-Some
returns-in-Some c =
    let W = wiring_of c.args.wired.now in
    let class = c.in-Some.class in
    let number = c.args.number in
    let below : class < number / 9 =
    subst (λ (o : Option ℕ). IfSome o (λ d. d < number / 9)) c.in-Some.is c.requires.below in
    let alike : label W class ≡ label W (number / 9) =
    subst (λ (o : Option ℕ). IfSome o (λ d. label W d ≡ label W (number / 9))) c.in-Some.is
    c.requires.alike in
    let read = c.row_at.ensures ∙ ap (words_of c.args.rows.now) (c.row_number.ensures
    ∙ (ap (λ q. row_number class q c.right_at-give.result) c.right_at-held.ensures
    ∙ ap (row_number class (right_at (number / 3))) c.right_at-give.ensures)) in
    IfOk-weaker c.to_vec.result _ (λ row. IsMask (is_taken W number) (classes W) row.items)
    (λ row copied. same_row (is_taken W) number (classes W) (row_number class
    (right_at (number / 3)) (right_at number)) number c.args.rows.now row.items c.requires.made.masks
    (alike_below class number below) (alike_taken W class number alike)
    (copied (λ x y same. same) ∙ read))
    c.to_vec.ensures.items_if_clones_equal
