-- Proved of the definitions.
use Rattle.mrc_stand_for.proofs.TextLemmas.{all_are_of_the_text}
use Rattle.mrc_stand_for.proofs.laws.all_are_of_the_text.Goals as goal

pub returns : goal.returns
returns c = all_are_of_the_text
