use Rattle.mrc_mig_laws.proofs.WholeLemmas.{routines_are_statements}
use Rattle.mrc_mig_laws.proofs.laws.routines_are_statements.Goals as goal

pub returns : goal.returns
returns c = routines_are_statements
