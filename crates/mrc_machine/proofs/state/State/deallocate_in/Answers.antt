use Rattle.std.proofs.Common.{sym, ap, ◌∙◌}
use Rattle.mrc_model.specs.World.{Space}
use Rattle.mrc_model.specs.Reply.{Refused, ◌>>=◌}
use Rattle.mrc_model.specs.Target.{with_space}
use Rattle.mrc_names.specs.Changes.{drop_reference}
use Rattle.mrc_names.proofs.Granting.{wanting}
use Rattle.mrc_machine.proofs.Trying.{err_bind, always}
use Rattle.mrc_machine.proofs.AllocateLaws.{put_after}
use Rattle.mrc_machine.proofs.DropLaws.{deallocate_by_space, reference_stays}
use Rattle.mrc_machine.proofs.DropLaws.{on_drop, drop_done, drop_goes, stayed, undone}
use Rattle.mrc_machine.proofs.state.State.deallocate_in.Goals as goal

pub returns-in_err-finish_drop-in-Ok-clause-refused :
    goal.returns-in_err-finish_drop-in-Ok-clause-refused
returns-in_err-finish_drop-in-Ok-clause-refused c =
    let w = c.args.self.now in
    let u = c.args.target in
    let x = c.take_space-space.result in
    let call = deallocate_by_space w c.args.caller c.args.task c.args.name u
    c.requires.target
    ∙ ap (λ (k : Space). drop_reference k c.args.name >>= on_drop w u c.args.name)
    (sym c.take_space-space.ensures.out) in
    let put = put_after w _ _ u _ c.drop_reference-answer.new.self c.take_space-space.ensures.left
    c.put_space.ensures in
    wanting c.from_residual.result _ c.from_residual.ensures.1
    (drop_goes w u c.args.name x c.drop_reference-answer.new.self c.in-Ok.dropped _ _ call
    c.in-Ok.ensures.ok c.take_space-space.ensures.back
    (reference_stays x c.drop_reference-answer.new.self c.args.name c.in-Ok.dropped c.in-Ok.ensures.ok)
    c.put_space.new.self put)

pub returns-in_err-finish_drop-in-Ok-clause-err : goal.returns-in_err-finish_drop-in-Ok-clause-err
returns-in_err-finish_drop-in-Ok-clause-err c =
    let w = c.args.self.now in
    let u = c.args.target in
    let x = c.take_space-space.result in
    let call = deallocate_by_space w c.args.caller c.args.task c.args.name u
    c.requires.target
    ∙ ap (λ (k : Space). drop_reference k c.args.name >>= on_drop w u c.args.name)
    (sym c.take_space-space.ensures.out) in
    let put = put_after w _ _ u _ c.drop_reference-answer.new.self c.take_space-space.ensures.left
    c.put_space.ensures in
    let same = c.in_err-finish_drop-in-Ok.ensures.err
    ∙ stayed w u c.args.name x c.drop_reference-answer.new.self c.in-Ok.dropped _ _ call
    c.in-Ok.ensures.ok c.take_space-space.ensures.back
    (reference_stays x c.drop_reference-answer.new.self c.args.name c.in-Ok.dropped c.in-Ok.ensures.ok)
    c.put_space.new.self put
    (undone c.in-Ok.dropped c.finish_drop.result _ c.finish_drop.ensures.done
    c.in_err-finish_drop-in-Ok.was) in
    always c.from_residual.result same

pub returns-in_ok-finish_drop-in-Ok-clause-ok : goal.returns-in_ok-finish_drop-in-Ok-clause-ok
returns-in_ok-finish_drop-in-Ok-clause-ok c =
    let w = c.args.self.now in
    let u = c.args.target in
    let x = c.take_space-space.result in
    let call = deallocate_by_space w c.args.caller c.args.task c.args.name u
    c.requires.target
    ∙ ap (λ (k : Space). drop_reference k c.args.name >>= on_drop w u c.args.name)
    (sym c.take_space-space.ensures.out) in
    let put = put_after w _ _ u _ c.drop_reference-answer.new.self c.take_space-space.ensures.left
    c.put_space.ensures in
    drop_done w u c.args.name x c.drop_reference-answer.new.self c.in-Ok.dropped _ _ call
    c.in-Ok.ensures.ok c.take_space-space.ensures.back
    (reference_stays x c.drop_reference-answer.new.self c.args.name c.in-Ok.dropped c.in-Ok.ensures.ok)
    c.put_space.new.self put
    c.finish_drop.new.self c.in_ok-finish_drop-in-Ok.ensures.ok

pub returns-in-Err-clause-refused : goal.returns-in-Err-clause-refused
returns-in-Err-clause-refused c =
    let w = c.args.self.now in
    let u = c.args.target in
    deallocate_by_space w c.args.caller c.args.task c.args.name u
    c.requires.target
    ∙ ap (λ (k : Space). drop_reference k c.args.name >>= on_drop w u c.args.name)
    (sym c.take_space-space.ensures.out)
    ∙ err_bind _ _ (Refused c.in-Err.code) c.in-Err.ensures.refused

pub returns-in-Err-clause-err : goal.returns-in-Err-clause-err
returns-in-Err-clause-err c =
    let w = c.args.self.now in
    let u = c.args.target in
    put_after w _ _ u _ c.drop_reference-answer.new.self c.take_space-space.ensures.left c.put_space.ensures
    ∙ ap (with_space w u) c.in-Err.ensures.err
    ∙ c.take_space-space.ensures.back
