use Rattle.mrc_confine.proofs.laws.accepted_is_safe.Goals as goal
use Rattle.mrc_confine.proofs.Safe.{accepted_safe}

pub returns : goal.returns
returns c = record { safe = accepted_safe }
