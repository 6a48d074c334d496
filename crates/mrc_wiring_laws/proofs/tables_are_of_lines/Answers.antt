use Rattle.mrc_wiring_laws.proofs.GivenOnes.{tables_one}
use Rattle.mrc_wiring_laws.proofs.GivenSteps.{tables_of_lines}
use Rattle.mrc_wiring_laws.proofs.tables_are_of_lines.Goals as goal

pub returns-clause-lines : goal.returns-clause-lines
returns-clause-lines c = tables_of_lines

pub returns-clause-only : goal.returns-clause-only
returns-clause-only c = tables_one
