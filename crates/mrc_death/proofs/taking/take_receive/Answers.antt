use Rattle.std.proofs.Common.{sym}
use Rattle.mrc_death.proofs.Absent.{no_receive_out}
use Rattle.mrc_death.proofs.taking.take_receive.Goals as goal

pub returns-in_default : goal.returns-in_default
returns-in_default c =
    no_receive_out c.args.store.now c.args.task c.args.name (sym c.in_default.ensures)
