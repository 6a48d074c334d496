use Rattle.mrc_certificate.proofs.Sets.{one_spelling}
use Rattle.mrc_certificate.proofs.laws.one_spelling.Goals as goal

pub returns : goal.returns
returns c = one_spelling
