use Rattle.std.proofs.Common.{◌∙◌, sym, ap, Some, None, if◌then◌else◌}
use Rattle.std.proofs.lemmas.Bool.{ltb-true, ltb-false}
use Rattle.mrc_machine.proofs.KernelLaws.{task_at, no_task_at}
use Rattle.mrc_machine.proofs.state.first_task.Goals as goal

pub returns-in_err-task : goal.returns-in_err-task
returns-in_err-task c =
    c.from_residual.ensures
    ∙ sym (no_task_at c.args.port c.kernel_place.result c.args.tasks.now c.requires
    c.kernel_place.ensures (ltb-false _ _ (sym c.in_err-task.ensures.lookup.0)))

pub returns-then-has_kernel : goal.returns-then-has_kernel
returns-then-has_kernel c =
    sym (task_at c.args.port c.kernel_place.result c.args.tasks.now c.requires
    c.kernel_place.ensures c.in_ok-task.task.now _
    (ltb-true _ _ (sym c.in_ok-task.ensures.lookup.0)) c.in_ok-task.ensures.lookup.1
    ∙ ap (λ b. if b then Some c.in_ok-task.task.now.0 else None)
    (sym c.has_kernel.ensures ∙ c.if-has_kernel.true))

pub returns-else-has_kernel : goal.returns-else-has_kernel
returns-else-has_kernel c =
    sym (task_at c.args.port c.kernel_place.result c.args.tasks.now c.requires
    c.kernel_place.ensures c.in_ok-task.task.now _
    (ltb-true _ _ (sym c.in_ok-task.ensures.lookup.0)) c.in_ok-task.ensures.lookup.1
    ∙ ap (λ b. if b then Some c.in_ok-task.task.now.0 else None)
    (sym c.has_kernel.ensures ∙ c.if-has_kernel.false))
