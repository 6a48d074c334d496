use Rattle.std.proofs.Common.{◌+◌, ◌*◌, ◌∙◌, ◌≤◌, length, sym, arith, refl, inl, inr}
use Rattle.mrc_bits.proofs.Counts.{fresh_few, fresh_none, one_more, count_more, count_end}
use Rattle.mrc_bits.proofs.Counts.{none_of_more, none_of_mask, none_joined}
use Rattle.mrc_bits.proofs.bits.join_bits.Goals as goal

pub loop-k-init : goal.loop-k-init
loop-k-init c = record {
  len = refl;
  bits = none_joined c.args.words.now c.args.more.now c.args.mask.now;
  fresh = sym (fresh_none c.args.words.now c.args.more.now c.args.mask.now 0 0
      (λ i low high. absurd (omega arith)));
}

pub overflow_add-count : goal.overflow_add-count
overflow_add-count c =
    let old = c.args.words.now in
    let sum = count_more old c.loop-k.words c.args.more.now c.args.mask.now c.loop-k.k
    c.loop-k.invariant.bits c.loop-k.count c.join_word-count.result c.loop-k.invariant.fresh
    c.join_word-count.ensures.fresh in
    let few = fresh_few old c.args.more.now c.args.mask.now 0 (64 * (c.loop-k.k + 1)) in
    let below = c.loop-k-test.true in
    let within = c.least-end.ensures.one in
    let fits = c.requires in
    omega (arith, sum, few, below, within, fits)

pub loop-k-preserved : goal.loop-k-preserved
loop-k-preserved c =
    let old = c.args.words.now in
    record {
      len = c.join_word-count.auto.words ∙ c.loop-k.invariant.len;
      bits = one_more old c.loop-k.words c.args.more.now c.args.mask.now c.loop-k.k
          c.loop-k.invariant.bits c.join_word-count.new.words c.join_word-count.ensures.bits;
      fresh = count_more old c.loop-k.words c.args.more.now c.args.mask.now c.loop-k.k
          c.loop-k.invariant.bits c.loop-k.count c.join_word-count.result
          c.loop-k.invariant.fresh c.join_word-count.ensures.fresh;
    }

pub returns-clause-fresh : goal.returns-clause-fresh
returns-clause-fresh c =
    let old = c.args.words.now in
    let more = c.args.more.now in
    let mask = c.args.mask.now in
    let past = c.loop-k-test.false in
    let end = c.loop-k.auto.k-end in
    let within : c.loop-k.k ≤ length old = omega (arith, end, c.least-end.ensures.one) in
    elim c.least-end.ensures.is [
      | inl all ↦ count_end old more mask c.loop-k.k (length old) c.loop-k.count within
          c.loop-k.invariant.fresh (λ i low high. absurd (omega (arith, all, past)))
      | inr (inl short) ↦ count_end old more mask c.loop-k.k (length old) c.loop-k.count within
          c.loop-k.invariant.fresh (λ i low high. none_of_more old more mask c.loop-k.k
          (omega (arith, short, past)) i low)
      | inr (inr short) ↦ count_end old more mask c.loop-k.k (length old) c.loop-k.count within
          c.loop-k.invariant.fresh (λ i low high. none_of_mask old more mask c.loop-k.k
          (omega (arith, short, past)) i low)
    ]
