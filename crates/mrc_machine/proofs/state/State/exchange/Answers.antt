use Rattle.std.proofs.Common.{ap, ◌∙◌, sym, subst}
use Rattle.std.proofs.lemmas.Result.{IfOk-weaker, on_err_weaker}
use Rattle.std.specs.Prelude.{IfErr, IsSome}
use Rattle.mrc_model.specs.Map.{get}
use Rattle.mrc_model.specs.Space.{put_entry}
use Rattle.mrc_model.specs.Target.{with_space}
use Rattle.mrc_index.specs.Undo.{CanPut}
use Rattle.mrc_names.specs.Refusals.{IsRefusal}
use Rattle.mrc_names.specs.Takes.{give_right}
use Rattle.mrc_machine.proofs.AllocateLaws.{put_after}
use Rattle.mrc_machine.proofs.state.State.exchange.Goals as goal

pub exchange-given-requires-clause-there : goal.exchange-given-requires-clause-there
exchange-given-requires-clause-there c =
    subst (λ x. IsSome (get x c.args.name)) (sym c.take_space-space.ensures.out) c.requires.used

pub exchange-given-requires-clause-left : goal.exchange-given-requires-clause-left
exchange-given-requires-clause-left c =
    subst (λ x. CanPut x c.args.name c.args.rest) (sym c.take_space-space.ensures.out)
    c.requires.left

pub returns-clause-ok : goal.returns-clause-ok
returns-clause-ok c =
    IfOk-weaker c.exchange-given.result _ _ (λ name done. (
      c.exchange-given.new.self,
      ap (λ x. give_right (put_entry x c.args.name c.args.rest) c.args.port c.args.right)
          (sym c.take_space-space.ensures.out) ∙ done,
      put_after c.args.self.now _ _ c.args.task _ c.exchange-given.new.self
          c.take_space-space.ensures.left c.put_space.ensures,
    )) c.exchange-given.ensures.ok

pub returns-clause-refused : goal.returns-clause-refused
returns-clause-refused c =
    subst (λ x. IfErr c.exchange-given.result (λ e. IsRefusal e
    (give_right (put_entry x c.args.name c.args.rest) c.args.port c.args.right)))
    c.take_space-space.ensures.out c.exchange-given.ensures.refused

pub returns-clause-err : goal.returns-clause-err
returns-clause-err c =
    let w = c.args.self.now in
    let put = put_after w _ _ c.args.task _ c.exchange-given.new.self
    c.take_space-space.ensures.left c.put_space.ensures in
    on_err_weaker c.exchange-given.result
    (λ same. put ∙ ap (with_space w c.args.task) same ∙ c.take_space-space.ensures.back)
    c.exchange-given.ensures.err
