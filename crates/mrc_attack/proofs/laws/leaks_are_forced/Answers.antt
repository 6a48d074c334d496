use Rattle.mrc_attack.proofs.Forced.{leaks_forced}
use Rattle.mrc_attack.proofs.laws.leaks_are_forced.Goals as goal

pub returns : goal.returns
returns c = record { forced = leaks_forced c.args.wired.now c.tasks-tasks.ensures.sound }
