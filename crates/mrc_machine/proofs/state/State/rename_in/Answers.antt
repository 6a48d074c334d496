use Rattle.std.proofs.Common.{refl, sym, ap, ◌∙◌}
use Rattle.std.proofs.lemmas.Result.{on_err_weaker}
use Rattle.mrc_model.specs.World.{World, Space}
use Rattle.mrc_model.specs.Reply.{Done, ◌>>=◌}
use Rattle.mrc_model.specs.Target.{with_space}
use Rattle.mrc_names.specs.Takes.{rename_entry}
use Rattle.mrc_machine.proofs.Trying.{goes_on, is_refused, seen_as}
use Rattle.mrc_machine.proofs.AllocateLaws.{put_after}
use Rattle.mrc_machine.proofs.RenameLaws.{rename_by_space, on_renamed}
use Rattle.mrc_machine.proofs.state.State.rename_in.Goals as goal

pub returns-clause-ok : goal.returns-clause-ok
returns-clause-ok c =
    let w = c.args.self.now in
    let u = c.args.target in
    let y = c.rename-renamed.new.self in
    let call = rename_by_space w c.args.caller c.args.task c.args.old c.args.new u
    c.requires.target
    ∙ ap (λ (x : Space). rename_entry x c.args.old c.args.new >>= on_renamed w u)
    (sym c.take_space-space.ensures.out) in
    let put = put_after w _ _ u _ y c.take_space-space.ensures.left c.put_space.ensures in
    seen_as c.rename-renamed.result _ _ _ (λ _. ap (λ (v : World). (v, Done)) (sym put))
    (goes_on c.rename-renamed.result _ _ _ (λ _. y) call c.rename-renamed.ensures.ok)

pub returns-clause-refused : goal.returns-clause-refused
returns-clause-refused c =
    let w = c.args.self.now in
    let u = c.args.target in
    let call = rename_by_space w c.args.caller c.args.task c.args.old c.args.new u
    c.requires.target
    ∙ ap (λ (x : Space). rename_entry x c.args.old c.args.new >>= on_renamed w u)
    (sym c.take_space-space.ensures.out) in
    is_refused c.rename-renamed.result _ _ _ (λ y. refl) call c.rename-renamed.ensures.refused

pub returns-clause-err : goal.returns-clause-err
returns-clause-err c =
    let w = c.args.self.now in
    let u = c.args.target in
    let put = put_after w _ _ u _ c.rename-renamed.new.self c.take_space-space.ensures.left
    c.put_space.ensures in
    on_err_weaker c.rename-renamed.result
    (λ same. put ∙ ap (with_space w u) same ∙ c.take_space-space.ensures.back)
    c.rename-renamed.ensures.err
