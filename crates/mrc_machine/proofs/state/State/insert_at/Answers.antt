use Rattle.std.proofs.Common.{ap, ◌∙◌, sym, subst}
use Rattle.std.proofs.lemmas.Result.{on_err_weaker, on_ok_weaker}
use Rattle.std.specs.Prelude.{IfErr}
use Rattle.mrc_model.specs.Space.{insert_at}
use Rattle.mrc_model.specs.Target.{with_space}
use Rattle.mrc_names.specs.Refusals.{IsRefusal}
use Rattle.mrc_machine.proofs.AllocateLaws.{put_after}
use Rattle.mrc_machine.proofs.state.State.insert_at.Goals as goal

pub returns-clause-ok : goal.returns-clause-ok
returns-clause-ok c =
    on_ok_weaker c.insert_at-put.result (λ done. (
      c.insert_at-put.new.self,
      ap (λ x. insert_at x c.args.name c.args.port c.args.right)
          (sym c.take_space-space.ensures.out) ∙ done,
      put_after c.args.self.now _ _ c.args.task _ c.insert_at-put.new.self
          c.take_space-space.ensures.left c.put_space.ensures,
    )) c.insert_at-put.ensures.ok

pub returns-clause-refused : goal.returns-clause-refused
returns-clause-refused c =
    subst (λ x. IfErr c.insert_at-put.result
    (λ e. IsRefusal e (insert_at x c.args.name c.args.port c.args.right)))
    c.take_space-space.ensures.out c.insert_at-put.ensures.refused

pub returns-clause-err : goal.returns-clause-err
returns-clause-err c =
    let w = c.args.self.now in
    let put = put_after w _ _ c.args.task _ c.insert_at-put.new.self
    c.take_space-space.ensures.left c.put_space.ensures in
    on_err_weaker c.insert_at-put.result
    (λ same. put ∙ ap (with_space w c.args.task) same ∙ c.take_space-space.ensures.back)
    c.insert_at-put.ensures.err
