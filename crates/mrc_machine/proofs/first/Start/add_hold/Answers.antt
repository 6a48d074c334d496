use Rattle.std.proofs.Common.{sym, ap, ◌∙◌, arith}
use Rattle.mrc_model.specs.declared.FirstLine.TheVariants.{Hold as HoldLine}
use Rattle.mrc_model.specs.First.{First, add_line}
use Rattle.mrc_wiring.specs.Table.{wiring_of}
use Rattle.mrc_machine.proofs.Trying.{is_fault, faulty, ok_bind}
use Rattle.mrc_machine.proofs.StartLaws.{hold_receive, hold_no_task, hold_no_port, hold_given}
use Rattle.mrc_machine.proofs.StartLaws.{start_hold, on_world}
use Rattle.mrc_machine.proofs.first.Start.add_hold.Goals as goal

pub returns-in-Receive-clause-refused : goal.returns-in-Receive-clause-refused
returns-in-Receive-clause-refused c =
    hold_receive (wiring_of c.args.wired.now) c.args.self c.args.task c.args.port c.args.right
    c.in-Receive.is

pub returns-then-from-task : goal.returns-then-from-task
returns-then-from-task c =
    let was : First = record {
      world = c.self.inside.state;
      tasks = c.self.inside.tasks;
      ports = c.self.inside.ports;
    } in
    record {
      ok = tt;
      refused = ap (λ (f : First). add_line (wiring_of c.args.wired.now) f
          (HoldLine c.args.task c.args.port c.args.right)) (sym c.self.view_is)
          ∙ hold_no_task (wiring_of c.args.wired.now) was c.args.task c.args.port c.args.right
          c.in_default.not-Receive
          (omega (arith, c.from.ensures, c.task.view_is, c.if-from-task.true));
    }

pub returns-then-not-is_live : goal.returns-then-not-is_live
returns-then-not-is_live c =
    let was : First = record {
      world = c.self.inside.state;
      tasks = c.self.inside.tasks;
      ports = c.self.inside.ports;
    } in
    record {
      ok = tt;
      refused = ap (λ (f : First). add_line (wiring_of c.args.wired.now) f
          (HoldLine c.args.task c.args.port c.args.right)) (sym c.self.view_is)
          ∙ hold_no_port (wiring_of c.args.wired.now) was c.args.task c.args.port c.args.right
          c.in_default.not-Receive (omega (
            arith,
            c.from.ensures,
            c.task.view_is,
            c.if-from-task.false,
          ))
          (sym c.is_live.ensures ∙ c.if-not-is_live.true);
    }

pub returns-in-Err : goal.returns-in-Err
returns-in-Err c =
    let was : First = record {
      world = c.self.inside.state;
      tasks = c.self.inside.tasks;
      ports = c.self.inside.ports;
    } in
    let line = ap (λ (f : First). add_line (wiring_of c.args.wired.now) f
    (HoldLine c.args.task c.args.port c.args.right)) (sym c.self.view_is)
    ∙ hold_given (wiring_of c.args.wired.now) was c.args.task c.args.port c.args.right
    c.in_default.not-Receive (omega (arith, c.from.ensures, c.task.view_is, c.if-from-task.false))
    (sym c.is_live.ensures ∙ c.if-not-is_live.false) in
    record {
      ok = tt;
      refused = is_fault c.in-Err.fault _ _ (on_world was) line
          (faulty c.in-Err.fault _ c.in-Err.ensures.refused);
    }

pub invariant_of-result : goal.invariant_of-result
invariant_of-result c =
    let was : First = record {
      world = c.self.inside.state;
      tasks = c.self.inside.tasks;
      ports = c.self.inside.ports;
    } in
    start_hold was _ c.args.task c.args.port c.args.right c.self.invariant c.in-Ok.ensures.ok

pub returns-in-Ok : goal.returns-in-Ok
returns-in-Ok c =
    let was : First = record {
      world = c.self.inside.state;
      tasks = c.self.inside.tasks;
      ports = c.self.inside.ports;
    } in
    record {
      ok = ap (λ (f : First). add_line (wiring_of c.args.wired.now) f
          (HoldLine c.args.task c.args.port c.args.right)) (sym c.self.view_is)
          ∙ hold_given (wiring_of c.args.wired.now) was c.args.task c.args.port c.args.right
          c.in_default.not-Receive (omega (
            arith,
            c.from.ensures,
            c.task.view_is,
            c.if-from-task.false,
          ))
          (sym c.is_live.ensures ∙ c.if-not-is_live.false)
          ∙ ok_bind _ _ (on_world was) c.in-Ok.ensures.ok;
      refused = tt;
    }
