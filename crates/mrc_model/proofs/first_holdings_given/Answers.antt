use Rattle.mrc_model.proofs.first_holdings_given.Goals as goal
use Rattle.mrc_model.proofs.FirstHeld.{first_given}

pub returns : goal.returns
returns c = record { given = first_given }
