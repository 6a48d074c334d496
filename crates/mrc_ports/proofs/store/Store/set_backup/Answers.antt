use Rattle.std.proofs.Common.{ap, ◌∙◌}
use Rattle.mrc_model.specs.Map.{get}
use Rattle.mrc_model.specs.World.{Store}
use Rattle.mrc_ports.proofs.TableLaws.{set_as}
use Rattle.mrc_ports.proofs.store.Store.set_backup.Goals as goal

pub returns-clause-backup : goal.returns-clause-backup
returns-clause-backup c = λ x at.
    let set = c.set_backup.ensures.backup x
    (ap (λ (s : Store). get s.ports c.args.port) c.self.view_is ∙ at) in (
      set.0,
      set_as c.self.inside.spaces c.self.inside.table c.set_backup.new.self c.args.self.now
          c.args.port _ c.self.view_is set.1,
    )
