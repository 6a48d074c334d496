use Rattle.std.proofs.Common.{ℕ, ◌*◌, ◌^◌, ◌<◌, ◌≤◌, length, slice_index, arith}
use Rattle.std.specs.Prelude.{bit_and}
use Rattle.std.proofs.Math.Facts.{Fits-lt-pow}
use Rattle.std.proofs.lemmas.Nat.{and_le_l}
use Rattle.mrc_bits.proofs.Fresh.{none_more, some_more, fresh_past}
use Rattle.mrc_bits.proofs.bits.fresh_behind.Goals as goal

pub loop-k-preserved : goal.loop-k-preserved
loop-k-preserved c =
    let words = c.args.words.now in
    let more = c.args.more.now in
    let mask = c.args.mask.now in
    let k = c.loop-k.k in
    let put = c.loop-k.fresh in
    let most : slice_index more k < 2 ^ 64 = Fits-lt-pow (c.type_inv.more k) in
    let word : ℕ = bit_and (slice_index more k) (slice_index mask k) in
    let one = and_le_l (slice_index more k) (slice_index mask k) in
    let past : length words ≤ k = let a = c.loop-k.auto.k in let b = c.requires in omega arith in
    record {
      none = none_more words more mask k put word
          (λ j low. fresh_past words more mask k j past low) (64 * c.args.from)
          c.loop-k.invariant.none;
      some = some_more words more mask k put word
          (λ j low. fresh_past words more mask k j past low)
          c.loop-k.invariant.some (omega (arith, most, one));
    }
