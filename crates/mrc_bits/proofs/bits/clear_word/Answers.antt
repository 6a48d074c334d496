use Rattle.mrc_bits.proofs.Less.{word_less}
use Rattle.mrc_bits.proofs.bits.clear_word.Goals as goal

pub returns-clause-bits : goal.returns-clause-bits
returns-clause-bits c =
    word_less c.args.words.now c.args.less.now c.args.k c.word_at.result c.requires
    c.word_at.ensures.value c.word_at.ensures.small
