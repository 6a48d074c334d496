use Rattle.std.proofs.Common.{◌+◌, sym, ap, ◌∙◌, arith}
use Rattle.mrc_model.specs.declared.FirstLine.TheVariants.{Task as TaskLine}
use Rattle.mrc_model.specs.First.{First, add_line}
use Rattle.mrc_wiring.specs.Table.{wiring_of}
use Rattle.mrc_machine.proofs.StartLaws.{task_refused, task_added, start_task, start_next}
use Rattle.mrc_machine.proofs.first.Start.add_task.Goals as goal

pub returns-then-tasks-self-clause-refused : goal.returns-then-tasks-self-clause-refused
returns-then-tasks-self-clause-refused c =
    let was : First = record {
      world = c.self.inside.state;
      tasks = c.self.inside.tasks;
      ports = c.self.inside.ports;
    } in
    ap (λ (f : First). add_line (wiring_of c.args.wired.now) f TaskLine) (sym c.self.view_is)
    ∙ task_refused (wiring_of c.args.wired.now) was
    (omega (arith, c.tasks.ensures.exact, c.if-tasks-self.true))

pub begin-requires-clause-next : goal.begin-requires-clause-next
begin-requires-clause-next c =
    let was : First = record {
      world = c.self.inside.state;
      tasks = c.self.inside.tasks;
      ports = c.self.inside.ports;
    } in
    start_next was _ c.self.invariant
    (omega (arith, c.tasks.ensures.exact, c.if-tasks-self.false, c.tasks.ensures.within))
    c.from.ensures

pub invariant_of-result : goal.invariant_of-result
invariant_of-result c =
    let was : First = record {
      world = c.self.inside.state;
      tasks = c.self.inside.tasks;
      ports = c.self.inside.ports;
    } in
    start_task (wiring_of c.args.wired.now) was _ _ _ c.self.invariant
    (omega (arith, c.tasks.ensures.exact, c.if-tasks-self.false, c.tasks.ensures.within))
    c.from.ensures c.in-Ok.ensures.ok

pub returns-in-Ok-clause-ok : goal.returns-in-Ok-clause-ok
returns-in-Ok-clause-ok c =
    let was : First = record {
      world = c.self.inside.state;
      tasks = c.self.inside.tasks;
      ports = c.self.inside.ports;
    } in
    ap (λ (f : First). add_line (wiring_of c.args.wired.now) f TaskLine) (sym c.self.view_is)
    ∙ task_added (wiring_of c.args.wired.now) was _ _ _
    (omega (arith, c.tasks.ensures.exact, c.if-tasks-self.false)) c.from.ensures
    (ap (λ p. p + c.self.inside.tasks) c.ports.ensures.exact) c.in-Ok.ensures.ok
