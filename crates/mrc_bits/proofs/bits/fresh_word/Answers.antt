use Rattle.mrc_bits.proofs.Words.{fresh_there}
use Rattle.mrc_bits.proofs.bits.fresh_word.Goals as goal

pub returns : goal.returns
returns c = λ i below.
    fresh_there c.args.words.now c.args.more.now c.args.mask.now c.args.k i c.word_at.result
    c.word_at.ensures.value c.word_at.ensures.small below
