use Rattle.std.proofs.Common.{sym, ◌∙◌}
use Rattle.mrc_machine.proofs.QlimitLaws.{limit_too_large, limit_no_name}
use Rattle.mrc_machine.proofs.QlimitLaws.{limit_no_right, limit_of}
use Rattle.mrc_machine.proofs.Trying.{goes_on, is_refused_by}
use Rattle.mrc_machine.proofs.state.State.set_limit_in.Goals as goal

pub returns-then-limit-gt-QUEUE-clause-refused : goal.returns-then-limit-gt-QUEUE-clause-refused
returns-then-limit-gt-QUEUE-clause-refused c =
    limit_too_large c.args.self.now c.args.caller c.args.task c.args.name c.args.limit
    c.args.target c.requires.target c.if-limit-gt-QUEUE.true

pub returns-in_default-clause-refused : goal.returns-in_default-clause-refused
returns-in_default-clause-refused c =
    limit_no_name c.args.self.now c.args.caller c.args.task c.args.name c.args.limit
    c.args.target c.requires.target _ c.space.ensures
    c.if-limit-gt-QUEUE.false (sym c.get.ensures ∙ c.in_default.is)

pub returns-in_default-received_port-clause-refused :
    goal.returns-in_default-received_port-clause-refused
returns-in_default-received_port-clause-refused c =
    limit_no_right c.args.self.now c.args.caller c.args.task c.args.name c.args.limit
    c.args.target c.requires.target _ c.space.ensures
    c.if-limit-gt-QUEUE.false c.in-Some.held (sym c.get.ensures ∙ c.in-Some.is)
    (sym c.received_port.ensures ∙ c.in_default-received_port.is)

pub returns-clause-ok : goal.returns-clause-ok
returns-clause-ok c =
    let call = limit_of c.args.self.now c.args.caller c.args.task c.args.name c.args.limit
    c.args.target c.requires.target _ c.space.ensures
    c.if-limit-gt-QUEUE.false c.in-Some.held (sym c.get.ensures ∙ c.in-Some.is)
    c.in-Some-received_port.port (sym c.received_port.ensures ∙ c.in-Some-received_port.is) in
    goes_on c.set_limit.result _ _ _ (λ _. c.set_limit.new.self) call c.set_limit.ensures.ok

pub returns-clause-refused : goal.returns-clause-refused
returns-clause-refused c =
    let call = limit_of c.args.self.now c.args.caller c.args.task c.args.name c.args.limit
    c.args.target c.requires.target _ c.space.ensures
    c.if-limit-gt-QUEUE.false c.in-Some.held (sym c.get.ensures ∙ c.in-Some.is)
    c.in-Some-received_port.port (sym c.received_port.ensures ∙ c.in-Some-received_port.is) in
    is_refused_by c.set_limit.result _ _ _ call c.set_limit.ensures.refused
