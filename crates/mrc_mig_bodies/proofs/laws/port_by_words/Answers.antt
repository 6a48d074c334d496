use Rattle.mrc_mig_bodies.proofs.LawLemmas.{port_is_marked}
use Rattle.mrc_mig_bodies.proofs.laws.port_by_words.Goals as goal

pub returns : goal.returns
returns c = port_is_marked
