-- Proved of the definitions.
use Rattle.mrc_stand_for.proofs.PolicyLemmas.{classes_stand}
use Rattle.mrc_stand_for.proofs.laws.classes_stand_for_themselves.Goals as goal

pub returns : goal.returns
returns c = classes_stand
