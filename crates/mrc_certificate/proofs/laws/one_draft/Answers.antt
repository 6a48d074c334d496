use Rattle.mrc_certificate.proofs.Sets.{one_draft}
use Rattle.mrc_certificate.proofs.laws.one_draft.Goals as goal

pub returns : goal.returns
returns c = one_draft
