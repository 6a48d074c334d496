use Rattle.mrc_attack.proofs.Forced.{breaches_have_no_yes, leaks_have_no_yes}
use Rattle.mrc_attack.proofs.laws.leaks_have_no_yes.Goals as goal

pub returns : goal.returns
returns c = record { breach = breaches_have_no_yes; leak = leaks_have_no_yes }
