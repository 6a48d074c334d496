use Rattle.std.proofs.Common.{sym, ap, ◌∙◌, arith}
use Rattle.mrc_model.specs.declared.FirstLine.TheVariants.{Port as PortLine}
use Rattle.mrc_model.specs.First.{First, add_line}
use Rattle.mrc_model.specs.Space.{is_full}
use Rattle.mrc_wiring.specs.Table.{wiring_of}
use Rattle.mrc_machine.proofs.StartLaws.{port_no_task, port_beyond, port_full, port_added}
use Rattle.mrc_machine.proofs.StartLaws.{start_port}
use Rattle.mrc_machine.proofs.first.Start.add_port.Goals as goal

pub returns-then-from-receiver-clause-refused : goal.returns-then-from-receiver-clause-refused
returns-then-from-receiver-clause-refused c =
    let was : First = record {
      world = c.self.inside.state;
      tasks = c.self.inside.tasks;
      ports = c.self.inside.ports;
    } in
    ap (λ (f : First). add_line (wiring_of c.args.wired.now) f (PortLine c.args.receiver))
    (sym c.self.view_is)
    ∙ port_no_task (wiring_of c.args.wired.now) was c.args.receiver
    (omega (arith, c.from.ensures, c.receiver.view_is, c.if-from-receiver.true))

pub returns-then-ports-self-clause-refused : goal.returns-then-ports-self-clause-refused
returns-then-ports-self-clause-refused c =
    let was : First = record {
      world = c.self.inside.state;
      tasks = c.self.inside.tasks;
      ports = c.self.inside.ports;
    } in
    ap (λ (f : First). add_line (wiring_of c.args.wired.now) f (PortLine c.args.receiver))
    (sym c.self.view_is)
    ∙ port_beyond (wiring_of c.args.wired.now) was c.args.receiver
    (omega (arith, c.from.ensures, c.receiver.view_is, c.if-from-receiver.false))
    (omega (arith, c.ports.ensures.exact, c.if-ports-self.true))

pub returns-then-is_full-clause-refused : goal.returns-then-is_full-clause-refused
returns-then-is_full-clause-refused c =
    let was : First = record {
      world = c.self.inside.state;
      tasks = c.self.inside.tasks;
      ports = c.self.inside.ports;
    } in
    ap (λ (f : First). add_line (wiring_of c.args.wired.now) f (PortLine c.args.receiver))
    (sym c.self.view_is)
    ∙ port_full (wiring_of c.args.wired.now) was c.args.receiver
    (omega (arith, c.from.ensures, c.receiver.view_is, c.if-from-receiver.false))
    (omega (arith, c.ports.ensures.exact, c.if-ports-self.false))
    (ap is_full (sym c.space.ensures) ∙ sym c.is_full.ensures ∙ c.if-is_full.true)

pub invariant_of-result : goal.invariant_of-result
invariant_of-result c =
    let was : First = record {
      world = c.self.inside.state;
      tasks = c.self.inside.tasks;
      ports = c.self.inside.ports;
    } in
    start_port was _ c.args.receiver c.self.inside.ports c.self.invariant
    (omega (arith, c.ports.ensures.within, c.if-ports-self.false)) c.in-Ok.ensures.ok

pub returns-in-Ok-clause-ok : goal.returns-in-Ok-clause-ok
returns-in-Ok-clause-ok c =
    let was : First = record {
      world = c.self.inside.state;
      tasks = c.self.inside.tasks;
      ports = c.self.inside.ports;
    } in
    ap (λ (f : First). add_line (wiring_of c.args.wired.now) f (PortLine c.args.receiver))
    (sym c.self.view_is)
    ∙ port_added (wiring_of c.args.wired.now) was c.args.receiver
    (omega (arith, c.from.ensures, c.receiver.view_is, c.if-from-receiver.false))
    (omega (arith, c.ports.ensures.exact, c.if-ports-self.false)) _
    (ap is_full (sym c.space.ensures) ∙ sym c.is_full.ensures ∙ c.if-is_full.false)
    c.in-Ok.ensures.ok
