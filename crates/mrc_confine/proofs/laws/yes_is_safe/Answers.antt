use Rattle.mrc_confine.proofs.laws.yes_is_safe.Goals as goal
use Rattle.mrc_confine.proofs.Safe.{yes_safe}

pub returns : goal.returns
returns c = record { safe = yes_safe }
