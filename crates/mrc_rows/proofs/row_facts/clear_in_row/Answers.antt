use Rattle.std.proofs.Common.{◌≡◌, List, ℕ, ◌<◌, ◌==◌, sym, ap, ◌∙◌, length, take, drop, ◌++◌}
use Rattle.std.specs.Prelude.{not, ◌&&◌}
use Rattle.mrc_bits.specs.Bits.{is_set}
use Rattle.mrc_rows.proofs.Rows.{one_less_bit, words_at, row_there, refilled}
use Rattle.std.specs.Vec.{with_items}
use Rattle.mrc_rows.proofs.row_facts.clear_in_row.Goals as goal

pub returns : goal.returns
returns c =
    let rows = c.args.rows.now.items in
    let below : c.args.row < length rows = row_there rows c.args.row c.args.place c.requires in
    let words = words_at rows c.args.row c.index_mut.result.now below c.index_mut.ensures.value in
    let as_long : length c.clear_bit.new.words ≡ length c.as_mut_slice.result.now = c.clear_bit.auto.words in
    let whole : (ws : List ℕ) → length ws ≡ c.index_mut.result.now.len → take c.index_mut.result.now.len (ws ++ drop (length ws) c.index_mut.result.now.items) ≡ ws = λ ws e. refilled c.index_mut.result.now.len ws c.index_mut.result.now.items e in
    let e = whole c.clear_bit.new.words (as_long ∙ (ap length c.as_mut_slice.ensures.value ∙ sym c.index_mut.result.now.ok.0)) in
    one_less_bit rows c.args.row c.args.place (with_items c.index_mut.result.now c.clear_bit.new.words) below
    (ap length e ∙ (as_long ∙ (ap length c.as_mut_slice.ensures.value ∙ ap length (sym words))))
    (λ i. ap (λ ws. is_set ws i) e ∙ (c.clear_bit.ensures i ∙ ap (λ ws. not (i == c.args.place) && is_set ws i) (c.as_mut_slice.ensures.value ∙ sym words)))
