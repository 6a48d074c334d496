use Rattle.mrc_confine.proofs.Safe.{verified_safe}
use Rattle.mrc_confine.proofs.laws.verified_is_safe.Goals as goal

pub returns : goal.returns
returns c = record { safe = verified_safe }
