use Rattle.mrc_facts.proofs.Total.{same_are_equal}
use Rattle.mrc_facts.proofs.laws.equal_facts.Goals as goal

pub returns : goal.returns
returns c = same_are_equal
