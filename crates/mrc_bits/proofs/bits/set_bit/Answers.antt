use Rattle.mrc_bits.proofs.Words.{set_there}
use Rattle.mrc_bits.proofs.bits.set_bit.Goals as goal

pub returns : goal.returns
returns c = set_there c.args.words.now c.args.i c.requires
