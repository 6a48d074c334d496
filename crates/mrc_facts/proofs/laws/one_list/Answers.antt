use Rattle.mrc_facts.proofs.Members.{one_list}
use Rattle.mrc_facts.proofs.laws.one_list.Goals as goal

pub returns : goal.returns
returns c = one_list
