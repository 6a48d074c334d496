use Rattle.std.proofs.Common.{ap, ◌∙◌, sym, subst}
use Rattle.std.proofs.lemmas.Result.{on_err_weaker}
use Rattle.std.specs.Prelude.{IfErr}
use Rattle.mrc_model.specs.Target.{with_space}
use Rattle.mrc_names.specs.Refusals.{IsRefusal}
use Rattle.mrc_names.specs.Takes.{give_right}
use Rattle.mrc_machine.proofs.Trying.{if_ok_all}
use Rattle.mrc_machine.proofs.AllocateLaws.{put_after}
use Rattle.mrc_machine.proofs.state.State.give_noted.Goals as goal

pub returns-clause-ok : goal.returns-clause-ok
returns-clause-ok c =
    if_ok_all c.give-given.result _ _ _ _ (λ s done back ready. (
      c.give-given.new.self,
      ap (λ x. give_right x c.args.port c.args.right) (sym c.take_space-space.ensures.out) ∙ done,
      back ∙ c.take_space-space.ensures.out,
      ready,
      put_after c.args.self.now _ _ c.args.task _ c.give-given.new.self
          c.take_space-space.ensures.left c.put_space.ensures,
    )) c.give-given.ensures.ok c.give-given.ensures.back c.give-given.ensures.ready

pub returns-clause-refused : goal.returns-clause-refused
returns-clause-refused c =
    subst (λ x. IfErr c.give-given.result
    (λ e. IsRefusal e (give_right x c.args.port c.args.right)))
    c.take_space-space.ensures.out c.give-given.ensures.refused

pub returns-clause-err : goal.returns-clause-err
returns-clause-err c =
    let w = c.args.self.now in
    let put = put_after w _ _ c.args.task _ c.give-given.new.self
    c.take_space-space.ensures.left c.put_space.ensures in
    on_err_weaker c.give-given.result
    (λ same. put ∙ ap (with_space w c.args.task) same ∙ c.take_space-space.ensures.back)
    c.give-given.ensures.err
