use Rattle.mrc_certificate.proofs.Sets.{each_is_within}
use Rattle.mrc_certificate.proofs.laws.each_is_within.Goals as goal

pub returns : goal.returns
returns c = each_is_within
