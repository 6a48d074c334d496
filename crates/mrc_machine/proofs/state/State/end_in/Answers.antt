use Rattle.mrc_names.proofs.Granting.{wanting}
use Rattle.mrc_machine.proofs.TerminateLaws.{terminate_done, terminate_goes}
use Rattle.mrc_machine.proofs.state.State.end_in.Goals as goal

pub returns-in_err-destroy-clause-refused : goal.returns-in_err-destroy-clause-refused
returns-in_err-destroy-clause-refused c =
    wanting c.from_residual.result _ c.from_residual.ensures.1
    (terminate_goes c.args.self.now c.args.caller c.args.task c.args.target
    c.kernel-kernel.result c.requires.target c.kernel-kernel.ensures)

pub returns-clause-ok : goal.returns-clause-ok
returns-clause-ok c =
    terminate_done c.args.self.now c.args.caller c.args.task c.args.target
    c.kernel-kernel.result c.requires.target c.kernel-kernel.ensures _ _
    c.in_ok-destroy.ensures.ok c.end.ensures
