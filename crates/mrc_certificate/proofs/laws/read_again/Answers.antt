use Rattle.mrc_certificate.proofs.Whole.{draft_again}
use Rattle.mrc_certificate.proofs.laws.read_again.Goals as goal

pub returns : goal.returns
returns c = draft_again
