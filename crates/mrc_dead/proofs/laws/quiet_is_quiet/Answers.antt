use Rattle.mrc_dead.proofs.Quiet.{quiet_so}
use Rattle.mrc_dead.proofs.laws.quiet_is_quiet.Goals as goal

pub returns : goal.returns
returns c = record { quiet = quiet_so }
