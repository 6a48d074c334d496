use Rattle.std.proofs.Common.{ap, ◌∙◌}
use Rattle.std.specs.Prelude.{◌&&◌, ◌||◌, nat_lt}
use Rattle.mrc_bits.specs.Bits.{is_set}
use Rattle.mrc_model.specs.Rights.{same_right}
use Rattle.mrc_rows.proofs.Rows.{no_bit}
use Rattle.mrc_classes.specs.Marking.{is_marked}
use Rattle.mrc_classes.proofs.Marking.{three_rows}
use Rattle.mrc_classes.proofs.marks.Marks.add_within.Goals as goal

pub returns : goal.returns
returns c = λ k r.
    let mask = c.args.mask.now in
    let limits = c.args.limits.now in
    let both = c.or_both.ensures k
    ∙ ap (λ b. b || (nat_lt k 1344 && (is_set mask k && is_set limits k))) (no_bit 21 k) in
    c.add.ensures k r ∙ ap (λ b. is_marked c.args.self.now k r || (same_right r c.args.right && b))
    (ap (λ b. nat_lt k 1344 && (is_set c.args.more.now k && b)) both
    ∙ three_rows (nat_lt k 1344) (is_set c.args.more.now k) (is_set mask k) (is_set limits k))
