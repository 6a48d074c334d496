use Rattle.std.proofs.Common.{ap, ◌∙◌, sym, subst}
use Rattle.std.proofs.lemmas.Result.{IfOk-weaker, on_err_weaker}
use Rattle.std.specs.Prelude.{IfErr}
use Rattle.mrc_model.specs.Target.{with_space}
use Rattle.mrc_names.specs.Refusals.{IsRefusal}
use Rattle.mrc_names.specs.Takes.{give_right}
use Rattle.mrc_machine.proofs.AllocateLaws.{put_after}
use Rattle.mrc_machine.proofs.state.State.copyout.Goals as goal

pub returns-clause-ok : goal.returns-clause-ok
returns-clause-ok c =
    IfOk-weaker c.copyout-given.result _ _ (λ name done. (
      c.copyout-given.new.self,
      ap (λ x. give_right x c.args.port c.args.right) (sym c.take_space-space.ensures.out) ∙ done,
      put_after c.args.self.now _ _ c.args.task _ c.copyout-given.new.self
          c.take_space-space.ensures.left c.put_space.ensures,
    )) c.copyout-given.ensures.ok

pub returns-clause-refused : goal.returns-clause-refused
returns-clause-refused c =
    subst (λ x. IfErr c.copyout-given.result
    (λ e. IsRefusal e (give_right x c.args.port c.args.right)))
    c.take_space-space.ensures.out c.copyout-given.ensures.refused

pub returns-clause-err : goal.returns-clause-err
returns-clause-err c =
    let w = c.args.self.now in
    let put = put_after w _ _ c.args.task _ c.copyout-given.new.self
    c.take_space-space.ensures.left c.put_space.ensures in
    on_err_weaker c.copyout-given.result
    (λ same. put ∙ ap (with_space w c.args.task) same ∙ c.take_space-space.ensures.back)
    c.copyout-given.ensures.err
