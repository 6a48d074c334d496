use Rattle.std.proofs.Common.{sym, ap, ◌∙◌}
use Rattle.std.proofs.Math.Facts.{to_z-of_z}
use Rattle.mrc_model.specs.World.{Space}
use Rattle.mrc_model.specs.Reply.{Refused, ◌>>=◌}
use Rattle.mrc_model.specs.Target.{with_space}
use Rattle.mrc_names.specs.Changes.{drop_refs}
use Rattle.mrc_names.proofs.Granting.{wanting}
use Rattle.mrc_machine.proofs.Trying.{err_bind, always}
use Rattle.mrc_machine.proofs.AllocateLaws.{put_after}
use Rattle.mrc_machine.proofs.DropLaws.{mod_refs_by_space, refs_stay}
use Rattle.mrc_machine.proofs.DropLaws.{on_drop, drop_done, drop_goes, stayed, undone}
use Rattle.mrc_machine.proofs.state.State.mod_refs_in.Goals as goal

pub returns-in_err-finish_drop-in-Ok-clause-refused :
    goal.returns-in_err-finish_drop-in-Ok-clause-refused
returns-in_err-finish_drop-in-Ok-clause-refused c =
    let w = c.args.self.now in
    let u = c.args.target in
    let x = c.take_space-space.result in
    let call = mod_refs_by_space w c.args.caller c.args.task c.args.name u
    c.requires.target c.args.right c.args.delta
    ∙ ap (λ (k : Space). drop_refs k c.args.name c.args.right c.args.delta >>= on_drop w u c.args.name)
    (sym c.take_space-space.ensures.out) in
    let told = ap (drop_refs x c.args.name c.args.right) (sym (to_z-of_z c.ranges.delta))
    ∙ c.in-Ok.ensures.ok in
    let put = put_after w _ _ u _ c.drop_refs-answer.new.self c.take_space-space.ensures.left
    c.put_space.ensures in
    wanting c.from_residual.result _ c.from_residual.ensures.1
    (drop_goes w u c.args.name x c.drop_refs-answer.new.self c.in-Ok.dropped _ _ call
    told c.take_space-space.ensures.back
    (refs_stay x c.drop_refs-answer.new.self c.args.name c.args.right c.args.delta c.in-Ok.dropped told)
    c.put_space.new.self put)

pub returns-in_err-finish_drop-in-Ok-clause-err : goal.returns-in_err-finish_drop-in-Ok-clause-err
returns-in_err-finish_drop-in-Ok-clause-err c =
    let w = c.args.self.now in
    let u = c.args.target in
    let x = c.take_space-space.result in
    let call = mod_refs_by_space w c.args.caller c.args.task c.args.name u
    c.requires.target c.args.right c.args.delta
    ∙ ap (λ (k : Space). drop_refs k c.args.name c.args.right c.args.delta >>= on_drop w u c.args.name)
    (sym c.take_space-space.ensures.out) in
    let told = ap (drop_refs x c.args.name c.args.right) (sym (to_z-of_z c.ranges.delta))
    ∙ c.in-Ok.ensures.ok in
    let put = put_after w _ _ u _ c.drop_refs-answer.new.self c.take_space-space.ensures.left
    c.put_space.ensures in
    let same = c.in_err-finish_drop-in-Ok.ensures.err
    ∙ stayed w u c.args.name x c.drop_refs-answer.new.self c.in-Ok.dropped _ _ call
    told c.take_space-space.ensures.back
    (refs_stay x c.drop_refs-answer.new.self c.args.name c.args.right c.args.delta c.in-Ok.dropped told)
    c.put_space.new.self put
    (undone c.in-Ok.dropped c.finish_drop.result _ c.finish_drop.ensures.done
    c.in_err-finish_drop-in-Ok.was) in
    always c.from_residual.result same

pub returns-in_ok-finish_drop-in-Ok-clause-ok : goal.returns-in_ok-finish_drop-in-Ok-clause-ok
returns-in_ok-finish_drop-in-Ok-clause-ok c =
    let w = c.args.self.now in
    let u = c.args.target in
    let x = c.take_space-space.result in
    let call = mod_refs_by_space w c.args.caller c.args.task c.args.name u
    c.requires.target c.args.right c.args.delta
    ∙ ap (λ (k : Space). drop_refs k c.args.name c.args.right c.args.delta >>= on_drop w u c.args.name)
    (sym c.take_space-space.ensures.out) in
    let told = ap (drop_refs x c.args.name c.args.right) (sym (to_z-of_z c.ranges.delta))
    ∙ c.in-Ok.ensures.ok in
    let put = put_after w _ _ u _ c.drop_refs-answer.new.self c.take_space-space.ensures.left
    c.put_space.ensures in
    drop_done w u c.args.name x c.drop_refs-answer.new.self c.in-Ok.dropped _ _ call
    told c.take_space-space.ensures.back
    (refs_stay x c.drop_refs-answer.new.self c.args.name c.args.right c.args.delta c.in-Ok.dropped told)
    c.put_space.new.self put
    c.finish_drop.new.self c.in_ok-finish_drop-in-Ok.ensures.ok

pub returns-in-Err-clause-refused : goal.returns-in-Err-clause-refused
returns-in-Err-clause-refused c =
    let w = c.args.self.now in
    let u = c.args.target in
    mod_refs_by_space w c.args.caller c.args.task c.args.name u
    c.requires.target c.args.right c.args.delta
    ∙ ap (λ (k : Space). drop_refs k c.args.name c.args.right c.args.delta >>= on_drop w u c.args.name)
    (sym c.take_space-space.ensures.out)
    ∙ err_bind _ _ (Refused c.in-Err.code)
    (ap (drop_refs c.take_space-space.result c.args.name c.args.right)
    (sym (to_z-of_z c.ranges.delta)) ∙ c.in-Err.ensures.refused)

pub returns-in-Err-clause-err : goal.returns-in-Err-clause-err
returns-in-Err-clause-err c =
    let w = c.args.self.now in
    let u = c.args.target in
    put_after w _ _ u _ c.drop_refs-answer.new.self c.take_space-space.ensures.left c.put_space.ensures
    ∙ ap (with_space w u) c.in-Err.ensures.err
    ∙ c.take_space-space.ensures.back
