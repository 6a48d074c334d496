use Rattle.mrc_model.proofs.dying_least.Goals as goal
use Rattle.mrc_model.proofs.Dying.{dying_closed, dying_within}

pub returns : goal.returns
returns c = record { least = λ s d. (dying_closed s d, dying_within s d) }
