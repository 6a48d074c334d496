use Rattle.std.proofs.Common.{sym, ◌∙◌}
use Rattle.mrc_machine.proofs.RequestLaws.{no_entry, receives_as, or_wrong, or_right}
use Rattle.mrc_machine.proofs.state.State.received.Goals as goal

pub returns-in_default-clause-refused : goal.returns-in_default-clause-refused
returns-in_default-clause-refused c =
    no_entry c.args.self.now c.args.task c.args.name _ c.space.ensures
    (sym c.get.ensures ∙ c.in_default.is)

pub returns-in-Some-received_port-clause-ok : goal.returns-in-Some-received_port-clause-ok
returns-in-Some-received_port-clause-ok c =
    receives_as c.args.self.now c.args.task c.args.name _ c.space.ensures c.in-Some.held _
    (sym c.get.ensures ∙ c.in-Some.is)
    (sym c.received_port.ensures ∙ c.in-Some-received_port.is)
    ∙ or_wrong c.in-Some-received_port.port

pub returns-in-None-clause-refused : goal.returns-in-None-clause-refused
returns-in-None-clause-refused c =
    receives_as c.args.self.now c.args.task c.args.name _ c.space.ensures c.in-Some.held _
    (sym c.get.ensures ∙ c.in-Some.is)
    (sym c.received_port.ensures ∙ c.in-None.is)
    ∙ or_right
