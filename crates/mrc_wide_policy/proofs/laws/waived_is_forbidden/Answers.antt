-- Proved of the definitions.
use Rattle.mrc_wide_policy.proofs.FactLemmas.{waived_is_forbidden}
use Rattle.mrc_wide_policy.proofs.laws.waived_is_forbidden.Goals as goal

pub returns : goal.returns
returns c = waived_is_forbidden
