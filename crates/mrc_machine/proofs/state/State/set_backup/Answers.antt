use Rattle.mrc_machine.proofs.HousingLaws.{housed_same}
use Rattle.mrc_machine.proofs.StoreLaws.{backup_keeps}
use Rattle.mrc_machine.proofs.state.State.set_backup.Goals as goal

pub invariant_of-self : goal.invariant_of-self
invariant_of-self c =
    housed_same _ _ _ c.self.invariant
    (backup_keeps c.self.inside.store _ c.args.port c.args.backup.now _ c.set_backup.ensures.backup
    c.set_backup.ensures.absent)
