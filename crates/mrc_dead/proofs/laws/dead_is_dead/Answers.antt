use Rattle.mrc_dead.proofs.Quiet.{dead_so}
use Rattle.mrc_dead.proofs.laws.dead_is_dead.Goals as goal

pub returns : goal.returns
returns c = record { dead = dead_so }
