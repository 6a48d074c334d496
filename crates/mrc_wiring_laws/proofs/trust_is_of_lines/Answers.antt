use Rattle.mrc_wiring_laws.proofs.GivenSteps.{trusts_of_lines}
use Rattle.mrc_wiring_laws.proofs.TrustedOnes.{trusts_one}
use Rattle.mrc_wiring_laws.proofs.trust_is_of_lines.Goals as goal

pub returns-clause-lines : goal.returns-clause-lines
returns-clause-lines c = trusts_of_lines

pub returns-clause-only : goal.returns-clause-only
returns-clause-only c = trusts_one
