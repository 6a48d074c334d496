-- Proved of the definitions.
use Rattle.mrc_wide_policy.proofs.FactLemmas.{products_have}
use Rattle.mrc_wide_policy.proofs.laws.products_have_their_facts.Goals as goal

pub returns : goal.returns
returns c = products_have
