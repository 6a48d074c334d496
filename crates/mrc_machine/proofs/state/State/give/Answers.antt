use Rattle.std.proofs.Common.{ap, ◌∙◌}
use Rattle.std.proofs.lemmas.Result.{err_from_is_err_and}
use Rattle.mrc_model.specs.Target.{with_space}
use Rattle.mrc_machine.proofs.AllocateLaws.{put_after}
use Rattle.mrc_machine.proofs.StartLaws.{right_refused, right_given}
use Rattle.mrc_machine.proofs.state.State.give.Goals as goal

pub returns-in_err-given-clause-refused : goal.returns-in_err-given-clause-refused
returns-in_err-given-clause-refused c =
    let p = err_from_is_err_and c.from_residual.result c.from_residual.ensures.1 in
    rw (p.1, p.2) (right_refused c.args.self.now c.args.task c.args.port c.args.right
    c.take_space-space.result c.take_space-space.ensures.out _ c.in_err-given.ensures.refused)

pub returns-in_err-given-clause-err : goal.returns-in_err-given-clause-err
returns-in_err-given-clause-err c =
    let p = err_from_is_err_and c.from_residual.result c.from_residual.ensures.1 in
    rw (p.1) (put_after c.args.self.now _ _ c.args.task _ c.copyout-given.new.self
    c.take_space-space.ensures.left c.put_space.ensures
    ∙ ap (with_space c.args.self.now c.args.task) c.in_err-given.ensures.err
    ∙ c.take_space-space.ensures.back)

pub returns-clause-ok : goal.returns-clause-ok
returns-clause-ok c =
    right_given c.args.self.now c.args.task c.args.port c.args.right
    c.take_space-space.result c.take_space-space.ensures.out c.copyout-given.new.self
    c.in_ok-given.field-0 _ c.in_ok-given.ensures.ok
    (put_after c.args.self.now _ _ c.args.task _ c.copyout-given.new.self
    c.take_space-space.ensures.left c.put_space.ensures)
