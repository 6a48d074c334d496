use Rattle.mrc_words.proofs.FactWords.{names_one_fact}
use Rattle.mrc_words.proofs.laws.texts_name_one_fact.Goals as goal

pub returns : goal.returns
returns c = names_one_fact
