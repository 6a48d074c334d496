use Rattle.mrc_closure.proofs.Placing.{chains_are_least}
use Rattle.mrc_closure.proofs.laws.chains_are_least.Goals as goal

pub returns : goal.returns
returns c = chains_are_least
