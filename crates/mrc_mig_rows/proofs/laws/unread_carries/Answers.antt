use Rattle.mrc_mig_rows.proofs.CarriedLemmas.{unread_carries}
use Rattle.mrc_mig_rows.proofs.laws.unread_carries.Goals as goal

pub returns : goal.returns
returns c = unread_carries
