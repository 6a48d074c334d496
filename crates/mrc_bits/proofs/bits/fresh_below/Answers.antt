use Rattle.std.proofs.Common.{ℕ, ◌-◌, ◌^◌, ◌<◌, slice_index, refl, arith}
use Rattle.std.specs.Prelude.{bit_and}
use Rattle.std.proofs.Math.Facts.{Fits-lt-pow}
use Rattle.std.proofs.lemmas.Nat.{and_le_l}
use Rattle.mrc_bits.proofs.Words.{fresh_there}
use Rattle.mrc_bits.proofs.Fresh.{none_more, some_more}
use Rattle.mrc_bits.proofs.bits.fresh_below.Goals as goal

pub loop-k-preserved : goal.loop-k-preserved
loop-k-preserved c =
    let words = c.args.words.now in
    let more = c.args.more.now in
    let mask = c.args.mask.now in
    let k = c.loop-k.k in
    let put = c.loop-k.fresh in
    let fits : slice_index words k < 2 ^ 64 = Fits-lt-pow (c.type_inv.words k) in
    let most : slice_index more k < 2 ^ 64 = Fits-lt-pow (c.type_inv.more k) in
    let both = bit_and (slice_index more k) (slice_index mask k) in
    let word : ℕ = bit_and both (2 ^ 64 - 1 - slice_index words k) in
    let one = and_le_l (slice_index more k) (slice_index mask k) in
    let two = and_le_l both (2 ^ 64 - 1 - slice_index words k) in
    record {
      none = λ zero i below. none_more words more mask k put word
          (λ j low. fresh_there words more mask k j _ refl fits low) 0
          (λ z j low high. c.loop-k.invariant.none z j high) zero i (omega arith) below;
      some = some_more words more mask k put word
          (λ j low. fresh_there words more mask k j _ refl fits low)
          c.loop-k.invariant.some (omega (arith, most, one, two));
    }
