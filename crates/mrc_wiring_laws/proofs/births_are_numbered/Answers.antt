use Rattle.mrc_wiring.proofs.Numbered.{births_numbered}
use Rattle.mrc_wiring_laws.proofs.births_are_numbered.Goals as goal

pub returns : goal.returns
returns c = record { births = births_numbered }
