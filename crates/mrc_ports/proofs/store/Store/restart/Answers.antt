use Rattle.mrc_ports.proofs.TableLaws.{restart_as}
use Rattle.mrc_ports.proofs.store.Store.restart.Goals as goal

pub returns : goal.returns
returns c =
    restart_as c.self.inside.spaces c.self.inside.table c.restart.new.self c.args.self.now c.args.port
    c.self.view_is c.restart.ensures
