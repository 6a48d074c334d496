use Rattle.std.proofs.Common.{sym, ap, ◌∙◌}
use Rattle.std.proofs.lemmas.Result.{on_err_weaker}
use Rattle.mrc_model.specs.World.{World, Space}
use Rattle.mrc_model.specs.Reply.{Done, ◌>>=◌}
use Rattle.mrc_model.specs.Target.{with_space}
use Rattle.mrc_names.specs.Changes.{move_member}
use Rattle.mrc_machine.proofs.Trying.{goes_on, is_refused_by, seen_as}
use Rattle.mrc_machine.proofs.AllocateLaws.{put_after}
use Rattle.mrc_machine.proofs.RenameLaws.{on_renamed}
use Rattle.mrc_machine.proofs.MoveMemberLaws.{move_by_space}
use Rattle.mrc_machine.proofs.state.State.move_member_in.Goals as goal

pub returns-clause-ok : goal.returns-clause-ok
returns-clause-ok c =
    let w = c.args.self.now in
    let u = c.args.target in
    let y = c.move_member-moved.new.self in
    let call = move_by_space w c.args.caller c.args.task c.args.member c.args.set u
    c.requires.target
    ∙ ap (λ (x : Space). move_member x c.args.member c.args.set >>= on_renamed w u)
    (sym c.take_space-space.ensures.out) in
    let put = put_after w _ _ u _ y c.take_space-space.ensures.left c.put_space.ensures in
    seen_as c.move_member-moved.result _ _ _ (λ _. ap (λ (v : World). (v, Done)) (sym put))
    (goes_on c.move_member-moved.result _ _ _ (λ _. y) call c.move_member-moved.ensures.ok)

pub returns-clause-refused : goal.returns-clause-refused
returns-clause-refused c =
    let w = c.args.self.now in
    let u = c.args.target in
    let call = move_by_space w c.args.caller c.args.task c.args.member c.args.set u
    c.requires.target
    ∙ ap (λ (x : Space). move_member x c.args.member c.args.set >>= on_renamed w u)
    (sym c.take_space-space.ensures.out) in
    is_refused_by c.move_member-moved.result _ _ _ call c.move_member-moved.ensures.refused

pub returns-clause-err : goal.returns-clause-err
returns-clause-err c =
    let w = c.args.self.now in
    let u = c.args.target in
    let put = put_after w _ _ u _ c.move_member-moved.new.self c.take_space-space.ensures.left
    c.put_space.ensures in
    on_err_weaker c.move_member-moved.result
    (λ same. put ∙ ap (with_space w u) same ∙ c.take_space-space.ensures.back)
    c.move_member-moved.ensures.err
