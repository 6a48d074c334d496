use Rattle.mrc_bits.proofs.Words.{clear_there}
use Rattle.mrc_bits.proofs.bits.clear_bit.Goals as goal

pub returns : goal.returns
returns c = clear_there c.args.words.now c.args.i c.requires
