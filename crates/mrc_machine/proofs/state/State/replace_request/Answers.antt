use Rattle.std.proofs.Common.{ap, ◌∙◌, sym, subst}
use Rattle.std.proofs.lemmas.Result.{IfOk-weaker, on_err_weaker}
use Rattle.std.specs.Prelude.{IsOk}
use Rattle.mrc_model.specs.Target.{with_space}
use Rattle.mrc_machine.specs.Requests.{request_left}
use Rattle.mrc_machine.proofs.AllocateLaws.{put_after}
use Rattle.mrc_machine.proofs.state.State.replace_request.Goals as goal

pub replace_backup-given-requires-clause-right : goal.replace_backup-given-requires-clause-right
replace_backup-given-requires-clause-right c =
    subst (λ x. IsOk (request_left x c.args.name c.args.disp)) (sym c.take_space-space.ensures.out)
    c.requires.right

pub replace_backup-given-requires-clause-room : goal.replace_backup-given-requires-clause-room
replace_backup-given-requires-clause-room c = λ y left.
    c.requires.room y (ap (λ x. request_left x c.args.name c.args.disp)
    (sym c.take_space-space.ensures.out) ∙ left)

pub returns-clause-ok : goal.returns-clause-ok
returns-clause-ok c =
    IfOk-weaker c.replace_backup-given.result _ _ (λ name done. (
      done.0,
      c.replace_backup-given.new.space,
      ap (λ x. request_left x c.args.name c.args.disp) (sym c.take_space-space.ensures.out)
          ∙ done.1,
      done.2,
      put_after c.args.self.now _ _ c.args.task _ c.replace_backup-given.new.space
          c.take_space-space.ensures.left c.put_space.ensures,
    )) c.replace_backup-given.ensures.ok

pub returns-clause-err : goal.returns-clause-err
returns-clause-err c =
    let w = c.args.self.now in
    let put = put_after w _ _ c.args.task _ c.replace_backup-given.new.space
    c.take_space-space.ensures.left c.put_space.ensures in
    on_err_weaker c.replace_backup-given.result
    (λ same. put ∙ ap (with_space w c.args.task) same ∙ c.take_space-space.ensures.back)
    c.replace_backup-given.ensures.err
