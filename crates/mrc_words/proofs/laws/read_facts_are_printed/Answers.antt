use Rattle.mrc_words.proofs.FactWords.{read_is_printed}
use Rattle.mrc_words.proofs.laws.read_facts_are_printed.Goals as goal

pub returns : goal.returns
returns c = read_is_printed
