use Rattle.std.proofs.Common.{◌∙◌}
use Rattle.mrc_ports.proofs.TableLaws.{home_there, home_filled}
use Rattle.mrc_ports.proofs.store.Store.add_task.Goals as goal

pub set-requires : goal.set-requires
set-requires c =
    home_there c.self.inside.spaces c.self.inside.table c.args.self.now c.args.class c.in-Ok.key
    (c.self.view_is ∙ c.in-Ok.ensures.added) c.in-Ok.ensures.number.0

pub returns-in-Ok-clause-added : goal.returns-in-Ok-clause-added
returns-in-Ok-clause-added c =
    home_filled c.self.inside.spaces c.set.new.self c.self.inside.table c.args.self.now
    c.args.class c.in-Ok.key c.args.space (c.self.view_is ∙ c.in-Ok.ensures.added)
    c.in-Ok.ensures.number.0 c.set.ensures
