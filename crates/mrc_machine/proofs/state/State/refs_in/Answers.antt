use Rattle.mrc_machine.proofs.AskingLaws.{refs_are}
use Rattle.mrc_machine.proofs.state.State.refs_in.Goals as goal

pub returns-in_default-clause-refused : goal.returns-in_default-clause-refused
returns-in_default-clause-refused c =
    refs_are c.args.self.now c.args.caller c.args.task c.args.name c.args.target c.args.right
    _ _ _
    c.requires.target c.space.ensures c.refs.ensures c.in_default.is

pub returns-clause-ok : goal.returns-clause-ok
returns-clause-ok c =
    refs_are c.args.self.now c.args.caller c.args.task c.args.name c.args.target c.args.right
    _ _ _
    c.requires.target c.space.ensures c.refs.ensures c.in-Some.is
