use Rattle.std.proofs.Common.{◌≡◌, List, ℕ, ◌*◌, ◌<◌, ◌^◌, sym, ap, subst, ◌∙◌, length, take, drop, ◌++◌}
use Rattle.std.specs.Prelude.{◌||◌, ◌&&◌, nat_lt}
use Rattle.std.specs.Vec.{with_items}
use Rattle.mrc_bits.specs.Bits.{is_set, fresh_count}
use Rattle.mrc_rows.specs.Joining.{is_in_both}
use Rattle.mrc_rows.proofs.Rows.{words_at, refilled}
use Rattle.mrc_rows.proofs.Kept.{joined_bits}
use Rattle.mrc_rows.proofs.row_facts.join_in_row.Goals as goal

pub join_bits-requires : goal.join_bits-requires
join_bits-requires c =
    let words = words_at c.args.rows.now.items c.args.row c.index_mut.result.now c.requires.there
    c.index_mut.ensures.value in
    subst (λ ws. 64 * length ws < 2 ^ 64) (words ∙ sym c.as_mut_slice.ensures.value) c.requires.few

pub returns-clause-joined : goal.returns-clause-joined
returns-clause-joined c =
    let rows = c.args.rows.now.items in
    let words = words_at rows c.args.row c.index_mut.result.now c.requires.there
    c.index_mut.ensures.value in
    let whole : (ws : List ℕ) → length ws ≡ c.index_mut.result.now.len
    → take c.index_mut.result.now.len (ws ++ drop (length ws) c.index_mut.result.now.items) ≡ ws
    = λ ws e. refilled c.index_mut.result.now.len ws c.index_mut.result.now.items e in
    let as_long : length c.join_bits.new.words ≡ length c.as_mut_slice.result.now
    = c.join_bits.auto.words in
    let e = whole c.join_bits.new.words (as_long
    ∙ (ap length c.as_mut_slice.ensures.value ∙ sym c.index_mut.result.now.ok.0)) in
    joined_bits rows c.args.row (with_items c.index_mut.result.now c.join_bits.new.words)
    c.args.more.now c.args.mask.now c.requires.there
    (ap length e ∙ (as_long ∙ (ap length c.as_mut_slice.ensures.value ∙ ap length (sym words))))
    (λ i. ap (λ ws. is_set ws i) e ∙ (c.join_bits.ensures.bits i
    ∙ ap (λ ws. is_set ws i || (nat_lt i (64 * length ws)
    && is_in_both c.args.more.now c.args.mask.now i)) (c.as_mut_slice.ensures.value ∙ sym words)))

pub returns-clause-fresh : goal.returns-clause-fresh
returns-clause-fresh c =
    let words = words_at c.args.rows.now.items c.args.row c.index_mut.result.now c.requires.there
    c.index_mut.ensures.value in
    c.join_bits.ensures.fresh
    ∙ ap (λ ws. fresh_count ws c.args.more.now c.args.mask.now 0 (64 * length ws))
    (c.as_mut_slice.ensures.value ∙ sym words)
