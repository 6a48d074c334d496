use Rattle.mrc_mig_arguments.specs.Words.{role_of_word}
use Rattle.mrc_mig_arguments.proofs.words.role_of.Goals as goal

pub returns-in-Word : goal.returns-in-Word
unfolding role_of_word
returns-in-Word c =
    rw (← c.first.ensures, c.in-Word.is, ← c.text.ensures) c.role_in.ensures
