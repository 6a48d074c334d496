use Rattle.std.proofs.Common.{refl, ◌≡◌, sym, ap, ◌∙◌}
use Rattle.std.proofs.lemmas.Result.{on_err_weaker}
use Rattle.mrc_model.specs.World.{World}
use Rattle.mrc_model.specs.Reply.{Name, ◌>>=◌}
use Rattle.mrc_model.specs.Target.{with_space}
use Rattle.mrc_model.specs.CallAllocate.{allocate_entry}
use Rattle.mrc_names.specs.Takes.{add_entry}
use Rattle.mrc_machine.proofs.Trying.{goes_on, is_refused, seen_as}
use Rattle.mrc_machine.proofs.AllocateLaws.{entry_no_kind, entry_as_added, put_after, on_entry}
use Rattle.mrc_machine.proofs.state.State.allocate_entry.Goals as goal

pub returns-then-kind-ne0-clause-refused : goal.returns-then-kind-ne0-clause-refused
returns-then-kind-ne0-clause-refused c =
    entry_no_kind c.args.self.now c.args.task c.args.kind c.args.entry c.if-kind-ne0.true

pub returns-clause-ok : goal.returns-clause-ok
returns-clause-ok c =
    let w = c.args.self.now in
    let x = c.take_space-space.result in
    let y = c.add-added.new.self in
    let call : allocate_entry w c.args.task c.args.kind c.args.entry
    ≡ (add_entry x c.args.entry >>= on_entry w c.args.task) =
    entry_as_added w c.args.task c.args.kind c.args.entry c.if-kind-ne0.false
    ∙ ap (λ z. add_entry z c.args.entry >>= on_entry w c.args.task)
    (sym c.take_space-space.ensures.out) in
    let put = put_after w _ _ c.args.task _ y c.take_space-space.ensures.left c.put_space.ensures in
    seen_as c.add-added.result _ _ _ (λ name. ap (λ (v : World). (v, Name name)) (sym put))
    (goes_on c.add-added.result _ _ _ (λ name. (y, name)) call c.add-added.ensures.ok)

pub returns-clause-refused : goal.returns-clause-refused
returns-clause-refused c =
    let w = c.args.self.now in
    let x = c.take_space-space.result in
    let call : allocate_entry w c.args.task c.args.kind c.args.entry
    ≡ (add_entry x c.args.entry >>= on_entry w c.args.task) =
    entry_as_added w c.args.task c.args.kind c.args.entry c.if-kind-ne0.false
    ∙ ap (λ z. add_entry z c.args.entry >>= on_entry w c.args.task)
    (sym c.take_space-space.ensures.out) in
    is_refused c.add-added.result _ _ _ (λ y. refl) call c.add-added.ensures.refused

pub returns-clause-err : goal.returns-clause-err
returns-clause-err c =
    let w = c.args.self.now in
    let put = put_after w _ _ c.args.task _ c.add-added.new.self c.take_space-space.ensures.left
    c.put_space.ensures in
    on_err_weaker c.add-added.result
    (λ same. put ∙ ap (with_space w c.args.task) same ∙ c.take_space-space.ensures.back)
    c.add-added.ensures.err
