use Rattle.mrc_words.proofs.FactWords.{printed_is_read}
use Rattle.mrc_words.proofs.laws.printed_facts_are_read.Goals as goal

pub returns : goal.returns
returns c = printed_is_read
