use Rattle.mrc_attack.proofs.Forced.{breaches_forced}
use Rattle.mrc_attack.proofs.laws.breaches_are_forced.Goals as goal

pub returns : goal.returns
returns c = record { forced = breaches_forced }
