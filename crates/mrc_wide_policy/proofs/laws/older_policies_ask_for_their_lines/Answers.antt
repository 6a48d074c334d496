-- Proved of the definitions.
use Rattle.mrc_wide_policy.proofs.StandLemmas.{older_asks}
use Rattle.mrc_wide_policy.proofs.laws.older_policies_ask_for_their_lines.Goals as goal

pub returns : goal.returns
returns c = older_asks
