use Rattle.mrc_death.proofs.Telling.{used_as}
use Rattle.mrc_death.proofs.notices.use_up.Goals as goal

pub returns : goal.returns
returns c = λ x at.
    used_as c.args.store.now c.set_backup.new.self c.restart.new.self c.args.port x at
    (c.set_backup.ensures.backup x at).1 c.restart.ensures
