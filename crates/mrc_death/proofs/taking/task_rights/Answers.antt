use Rattle.mrc_death.proofs.Leaving.{no_rights}
use Rattle.mrc_death.proofs.taking.task_rights.Goals as goal

pub returns-in-None : goal.returns-in-None
returns-in-None c =
    no_rights c.args.store.now c.args.task c.new.result.items c.new.ensures.items c.in-None.ensures
