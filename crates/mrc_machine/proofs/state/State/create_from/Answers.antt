use Rattle.std.proofs.Common.{refl, sym, ap, ◌∙◌, subst}
use Rattle.std.specs.Prelude.{IsSome}
use Rattle.mrc_model.specs.Map.{get, next_key}
use Rattle.mrc_model.specs.World.{World, task_class}
use Rattle.mrc_model.specs.CallCreateTask.{limit_of_task_numbers}
use Rattle.mrc_map.specs.Entries.{below}
use Rattle.mrc_ports.specs.Tables.{table_of, is_short}
use Rattle.std.proofs.lemmas.Result.{err_from_is_err_and}
use Rattle.mrc_model.specs.Space.{is_full}
use Rattle.mrc_machine.proofs.CreateLaws.{create_no_class, create_full}
use Rattle.mrc_machine.proofs.CreateLaws.{create_short, create_last, create_goes}
use Rattle.mrc_machine.proofs.CreateLaws.{create_not_given, create_done, given_first}
use Rattle.mrc_machine.proofs.CreateLaws.{own_space, gone_back}
use Rattle.mrc_index.specs.Undo.{CanPut}
use Rattle.mrc_machine.proofs.state.State.create_from.Goals as goal

pub returns-in_default-clause-refused :
    goal.returns-in_default-clause-refused
returns-in_default-clause-refused c =
    create_no_class c.args.self.now c.args.caller c.args.task c.args.target
    c.requires.target
    (sym c.kernel_class.ensures ∙ c.in_default.is)

pub returns-then-is_full-clause-refused : goal.returns-then-is_full-clause-refused
returns-then-is_full-clause-refused c =
    create_full c.args.self.now c.args.caller c.args.task c.args.target
    c.requires.target c.in-Some.class
    (sym c.kernel_class.ensures ∙ c.in-Some.is)
    (ap is_full (sym c.space.ensures) ∙ sym c.is_full.ensures ∙ c.if-is_full.true)

pub returns-then-is_short-clause-refused : goal.returns-then-is_short-clause-refused
returns-then-is_short-clause-refused c =
    create_short c.args.self.now c.args.caller c.args.task c.args.target
    c.requires.target c.in-Some.class
    (sym c.kernel_class.ensures ∙ c.in-Some.is)
    (ap is_full (sym c.space.ensures) ∙ sym c.is_full.ensures ∙ c.if-is_full.false)
    (sym c.is_short.ensures ∙ c.if-is_short.true)

pub returns-in_default-next_task-clause-refused : goal.returns-in_default-next_task-clause-refused
returns-in_default-next_task-clause-refused c =
    create_last c.args.self.now c.args.caller c.args.task c.args.target
    c.requires.target c.in-Some.class
    (sym c.kernel_class.ensures ∙ c.in-Some.is)
    (ap is_full (sym c.space.ensures) ∙ sym c.is_full.ensures ∙ c.if-is_full.false)
    (sym c.is_short.ensures ∙ c.if-is_short.false)
    (sym c.next_task.ensures ∙ c.in_default-next_task.is)

pub returns-in_err-given-clause-refused : goal.returns-in_err-given-clause-refused
returns-in_err-given-clause-refused c =
    let p = err_from_is_err_and c.from_residual.result c.from_residual.ensures.1 in
    rw (p.1, p.2) (create_not_given c.args.self.now c.args.caller c.args.task c.args.target
    c.requires.target c.in-Some.class
    (sym c.kernel_class.ensures ∙ c.in-Some.is)
    (ap is_full (sym c.space.ensures) ∙ sym c.is_full.ensures ∙ c.if-is_full.false)
    (sym c.is_short.ensures ∙ c.if-is_short.false) c.in-Some-next_task.number
    (sym c.next_task.ensures ∙ c.in-Some-next_task.is) _ refl c.next_port.result
    c.next_port.ensures _
    c.in_err-given.ensures.refused)

pub begin-requires-clause-next : goal.begin-requires-clause-next
begin-requires-clause-next c =
    ap (λ (v : World). below limit_of_task_numbers (next_key v.tasks))
    c.in_ok-given.ensures.ok.4 ∙ sym c.next_task.ensures ∙ c.in-Some-next_task.is

pub begin-requires-clause-short : goal.begin-requires-clause-short
begin-requires-clause-short c =
    ap (λ (v : World). is_short (table_of v.store)) c.in_ok-given.ensures.ok.4
    ∙ sym c.is_short.ensures ∙ c.if-is_short.false

pub leave-requires-clause-there : goal.leave-requires-clause-there
leave-requires-clause-there c =
    subst (λ (v : World). IsSome (get v.tasks c.args.caller))
    (sym (c.in-Err.ensures.err ∙ c.in_ok-given.ensures.ok.4)) c.requires.caller

pub returns-in-Ok-clause-ok : goal.returns-in-Ok-clause-ok
returns-in-Ok-clause-ok c =
    let put = c.in_ok-given.ensures.ok in
    create_done c.args.self.now c.args.caller c.args.task c.args.target
    c.requires.target c.in-Some.class
    (sym c.kernel_class.ensures ∙ c.in-Some.is)
    (ap is_full (sym c.space.ensures) ∙ sym c.is_full.ensures ∙ c.if-is_full.false)
    (sym c.is_short.ensures ∙ c.if-is_short.false) c.in-Some-next_task.number
    (sym c.next_task.ensures ∙ c.in-Some-next_task.is) _ refl c.next_port.result
    c.next_port.ensures put.0
    c.in_ok-given.given.0 _ _ c.begin.new.self c.requires.caller put.1
    (c.task_class.ensures ∙ ap (λ (v : World). task_class v c.args.target) put.4) refl
    (given_first c.args.self.now c.give_noted.new.self c.begin.new.self c.args.caller
    c.in-Some-next_task.number _ c.in-Some.class put.0 c.requires.caller
    (sym c.next_task.ensures ∙ c.in-Some-next_task.is) put.4 c.in-Ok.ensures.ok)

pub returns-in-Err-clause-refused : goal.returns-in-Err-clause-refused
returns-in-Err-clause-refused c = create_goes c.args.self.now c.args.caller c.args.task
    c.args.target
    c.requires.target c.in-Some.class
    (sym c.kernel_class.ensures ∙ c.in-Some.is)
    (ap is_full (sym c.space.ensures) ∙ sym c.is_full.ensures ∙ c.if-is_full.false)
    (sym c.is_short.ensures ∙ c.if-is_short.false) c.in-Some-next_task.number
    (sym c.next_task.ensures ∙ c.in-Some-next_task.is)

pub leave-requires-clause-left : goal.leave-requires-clause-left
leave-requires-clause-left c =
    let put = c.in_ok-given.ensures.ok in
    subst (λ x. CanPut x c.in_ok-given.given.0 c.in_ok-given.given.1)
    (sym (own_space c.args.self.now c.begin.new.self c.args.caller put.0
    (c.in-Err.ensures.err ∙ put.4))) put.3

pub returns-in-Err-clause-err : goal.returns-in-Err-clause-err
returns-in-Err-clause-err c =
    let put = c.in_ok-given.ensures.ok in
    gone_back c.args.self.now c.begin.new.self _ c.args.caller c.in_ok-given.given.0 put.0
    c.in_ok-given.given.1 c.housing.ensures.kept (c.in-Err.ensures.err ∙ put.4) put.2
    c.leave.ensures
