use Rattle.mrc_confine.proofs.Safe.{lacked_never}
use Rattle.mrc_confine.proofs.laws.lacked_is_never_held.Goals as goal

pub returns : goal.returns
returns c = record { lacked = lacked_never }
