use Rattle.std.proofs.Common.{refl}
use Rattle.mrc_names.proofs.Granting.{granted, wanting}
use Rattle.mrc_machine.proofs.AskingLaws.{names_are}
use Rattle.mrc_machine.proofs.state.State.names_in.Goals as goal

pub returns-clause-ok : goal.returns-clause-ok
returns-clause-ok c =
    names_are c.args.self.now c.args.caller c.args.task c.args.target c.in_ok-names.names
    c.requires.target c.in_ok-names.ensures

pub returns-in_err-names-clause-refused : goal.returns-in_err-names-clause-refused
returns-in_err-names-clause-refused c =
    wanting c.from_residual.result _ c.from_residual.ensures.1
    (granted _ _ (names_are c.args.self.now c.args.caller c.args.task c.args.target _
    c.requires.target refl))
