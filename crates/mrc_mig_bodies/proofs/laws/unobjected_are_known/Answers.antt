use Rattle.mrc_mig_bodies.proofs.LawLemmas.{has_port, are_known}
use Rattle.mrc_mig_bodies.proofs.laws.unobjected_are_known.Goals as goal

pub returns : goal.returns
returns c = record { port = has_port; known = are_known }
