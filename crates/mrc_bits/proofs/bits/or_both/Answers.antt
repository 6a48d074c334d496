use Rattle.std.proofs.Common.{◌∙◌, ◌<◌, ◌≤◌, length, arith, refl, ap, inl, inr}
use Rattle.std.specs.Prelude.{◌||◌}
use Rattle.mrc_bits.specs.Bits.{is_set}
use Rattle.std.proofs.lemmas.List.{length-set}
use Rattle.mrc_bits.proofs.Both.{next_both, begin_both, end_both}
use Rattle.mrc_bits.proofs.bits.or_both.Goals as goal

pub loop-k-init : goal.loop-k-init
loop-k-init c =
    record { len = refl; bits = begin_both c.args.words.now c.args.more.now c.args.mask.now }

pub loop-k-preserved : goal.loop-k-preserved
loop-k-preserved c =
    let below : c.loop-k.k < length c.args.words.now =
    omega (arith, c.loop-k-test.true, c.least-end.ensures.one) in
    record {
      len = length-set c.loop-k.words c.loop-k.k _ ∙ c.loop-k.invariant.len;
      bits = next_both c.args.words.now c.loop-k.words c.args.more.now c.args.mask.now c.loop-k.k
          c.loop-k.invariant.len below c.loop-k.invariant.bits;
    }

pub returns : goal.returns
returns c = λ i.
    let within : c.loop-k.k ≤ length c.args.words.now =
    omega (arith, c.loop-k.auto.k-end, c.least-end.ensures.one) in
    c.loop-k.invariant.bits i
    ∙ ap (λ b. is_set c.args.words.now i || b)
    (elim c.least-end.ensures.is [
      | inl all ↦ end_both c.args.words.now c.args.more.now c.args.mask.now c.loop-k.k i
          (inl (omega arith)) within
      | inr (inl short) ↦ end_both c.args.words.now c.args.more.now c.args.mask.now c.loop-k.k i
          (inr (inl (omega arith))) within
      | inr (inr short) ↦ end_both c.args.words.now c.args.more.now c.args.mask.now c.loop-k.k i
          (inr (inr (omega arith))) within
    ])
