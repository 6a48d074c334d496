use Rattle.std.proofs.Common.{◌-◌, ◌^◌, ◌<◌, slice_index, refl, arith, rules}
use Rattle.std.specs.Prelude.{bit_and}
use Rattle.std.proofs.Math.Facts.{Fits-lt-pow}
use Rattle.std.proofs.lemmas.Nat.{and_le_l}
use Rattle.mrc_bits.proofs.Words.{fresh_there}
use Rattle.mrc_bits.proofs.Counts.{or_there, fresh_ones}
use Rattle.mrc_bits.proofs.bits.join_word.Goals as goal

pub returns-clause-bits : goal.returns-clause-bits
returns-clause-bits c =
    let fits : slice_index c.args.words.now c.args.k < 2 ^ 64 = search rules in
    or_there c.args.words.now c.args.more.now c.args.mask.now c.args.k _
    c.requires.words (λ i below. fresh_there c.args.words.now c.args.more.now c.args.mask.now
    c.args.k i _ refl fits below)

pub returns-clause-fresh : goal.returns-clause-fresh
returns-clause-fresh c =
    let fits : slice_index c.args.words.now c.args.k < 2 ^ 64 = search rules in
    let more : slice_index c.args.more.now c.args.k < 2 ^ 64 =
    Fits-lt-pow (c.type_inv.more c.args.k) in
    let both = bit_and (slice_index c.args.more.now c.args.k)
    (slice_index c.args.mask.now c.args.k) in
    let one = and_le_l (slice_index c.args.more.now c.args.k)
    (slice_index c.args.mask.now c.args.k) in
    let two = and_le_l both (2 ^ 64 - 1 - slice_index c.args.words.now c.args.k) in
    fresh_ones c.args.words.now c.args.more.now c.args.mask.now c.args.k _
    (omega (arith, more, one, two)) (λ i below. fresh_there c.args.words.now c.args.more.now
    c.args.mask.now c.args.k i _ refl fits below)
