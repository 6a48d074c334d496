use Rattle.std.proofs.Common.{◌≡◌, false, ap, sym, ◌∙◌, subst}
use Rattle.std.specs.Prelude.{IsSome, IfOk}
use Rattle.mrc_model.specs.Map.{get}
use Rattle.mrc_model.specs.World.{World}
use Rattle.mrc_model.specs.Target.{with_space}
use Rattle.mrc_model.specs.Space.{is_full, unused}
use Rattle.mrc_ports.specs.Tables.{table_of, is_short}
use Rattle.mrc_machine.proofs.AllocateLaws.{born, put_after, on_two, on_two_errs}
use Rattle.mrc_machine.proofs.state.State.birth.Goals as goal

pub birth_in-born-requires-clause-room : goal.birth_in-born-requires-clause-room
birth_in-born-requires-clause-room c =
    ap is_full c.take_space-space.ensures.out ∙ c.requires.room

pub birth_in-born-requires-clause-few : goal.birth_in-born-requires-clause-few
birth_in-born-requires-clause-few c =
    subst (λ (w : World). is_short (table_of w.store) ≡ false)
    (sym c.take_space-space.ensures.left) c.requires.few

pub put_space-requires : goal.put_space-requires
put_space-requires c =
    subst (λ m. IsSome (get m c.args.task))
    (sym (c.birth_in-born.ensures.tasks
    ∙ ap (λ (w : World). w.tasks) c.take_space-space.ensures.left)) c.requires.there

pub returns-clause-ok : goal.returns-clause-ok
returns-clause-ok c =
    on_two c.birth_in-born.result
    (λ port right. born c.args.self.now _ _ _ c.args.task c.args.class _ _
    c.take_space-space.ensures.out c.take_space-space.ensures.left port right
    c.put_space.ensures)
    c.birth_in-born.ensures.ok c.birth_in-born.ensures.space

pub returns-clause-name : goal.returns-clause-name
returns-clause-name c =
    subst (λ x. IfOk c.birth_in-born.result (λ name. name ≡ unused x))
    c.take_space-space.ensures.out c.birth_in-born.ensures.name

pub returns-clause-err : goal.returns-clause-err
returns-clause-err c =
    let w = c.args.self.now in
    let t = c.args.task in
    on_two_errs c.birth_in-born.result
    (λ same kept. put_after w _ _ t _ _ (same ∙ c.take_space-space.ensures.left)
    c.put_space.ensures ∙ ap (with_space w t) kept ∙ c.take_space-space.ensures.back)
    c.birth_in-born.ensures.err c.birth_in-born.ensures.kept
