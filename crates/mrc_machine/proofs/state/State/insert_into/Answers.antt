use Rattle.std.proofs.Common.{refl, sym, ap, ◌∙◌, subst}
use Rattle.std.proofs.lemmas.Result.{IfErr-weaker, on_ok_weaker}
use Rattle.std.specs.Prelude.{IfErr}
use Rattle.mrc_wiring.specs.Table.{wiring_of}
use Rattle.mrc_machine.specs.Calls.{IsRefusedBy}
use Rattle.mrc_machine.specs.Moves.{with_moved}
use Rattle.mrc_machine.proofs.Trying.{ok_bind, is_turned}
use Rattle.mrc_machine.proofs.MoveLaws.{insert_bad_name, insert_gives_none}
use Rattle.mrc_machine.proofs.MoveLaws.{insert_is}
use Rattle.mrc_machine.proofs.state.State.insert_into.Goals as goal

pub returns-then-is_reserved-clause-refused : goal.returns-then-is_reserved-clause-refused
returns-then-is_reserved-clause-refused c =
    insert_bad_name (wiring_of c.args.wired.now) c.args.self.now c.args.caller c.args.task
    c.args.name c.args.right c.args.disp
    c.args.target c.requires.target (sym c.is_reserved.ensures
    ∙ c.if-is_reserved.true)

pub returns-then-gives_none-clause-refused : goal.returns-then-gives_none-clause-refused
returns-then-gives_none-clause-refused c =
    insert_gives_none (wiring_of c.args.wired.now) c.args.self.now c.args.caller c.args.task
    c.args.name c.args.right c.args.disp
    c.args.target c.requires.target (sym c.is_reserved.ensures
    ∙ c.if-is_reserved.false)
    (sym c.gives_none.ensures ∙ c.if-gives_none.true)

pub returns-then-target-caller-clause-ok : goal.returns-then-target-caller-clause-ok
returns-then-target-caller-clause-ok c =
    let w = c.args.self.now in
    on_ok_weaker c.insert_within.result (λ done.
    insert_is (wiring_of c.args.wired.now) w c.args.caller c.args.task c.args.name c.args.right
    c.args.disp c.args.target
    c.requires.target (sym c.is_reserved.ensures ∙ c.if-is_reserved.false)
    (sym c.gives_none.ensures ∙ c.if-gives_none.false)
    ∙ ok_bind _ c.insert_within.new.self _
    (ap (λ u. with_moved (wiring_of c.args.wired.now) w c.args.caller c.args.right c.args.disp u
    c.args.name)
    (sym c.target.view_is ∙ c.if-target-caller.true ∙ c.caller.view_is) ∙ done (wiring_of
    c.args.wired.now)))
    c.insert_within.ensures.ok

pub returns-then-target-caller-clause-refused : goal.returns-then-target-caller-clause-refused
returns-then-target-caller-clause-refused c =
    let w = c.args.self.now in
    is_turned c.insert_within.result _ _ _ (λ v. refl)
    (insert_is (wiring_of c.args.wired.now) w c.args.caller c.args.task c.args.name c.args.right
    c.args.disp c.args.target
    c.requires.target (sym c.is_reserved.ensures ∙ c.if-is_reserved.false)
    (sym c.gives_none.ensures ∙ c.if-gives_none.false))
    (subst (λ u. IfErr c.insert_within.result
    (λ e. IsRefusedBy e (with_moved (wiring_of c.args.wired.now) w c.args.caller c.args.right
    c.args.disp u c.args.name)))
    (sym (sym c.target.view_is ∙ c.if-target-caller.true ∙ c.caller.view_is))
    (IfErr-weaker c.insert_within.result _ _ (λ e all. all (wiring_of c.args.wired.now))
    c.insert_within.ensures.refused))

pub returns-clause-ok : goal.returns-clause-ok
returns-clause-ok c =
    let w = c.args.self.now in
    on_ok_weaker c.insert_across.result (λ done.
    insert_is (wiring_of c.args.wired.now) w c.args.caller c.args.task c.args.name c.args.right
    c.args.disp c.args.target
    c.requires.target (sym c.is_reserved.ensures ∙ c.if-is_reserved.false)
    (sym c.gives_none.ensures ∙ c.if-gives_none.false)
    ∙ ok_bind _ c.insert_across.new.self _ done)
    c.insert_across.ensures.ok

pub returns-clause-refused : goal.returns-clause-refused
returns-clause-refused c =
    is_turned c.insert_across.result _ _ _ (λ v. refl)
    (insert_is (wiring_of c.args.wired.now) c.args.self.now c.args.caller c.args.task c.args.name
    c.args.right c.args.disp
    c.args.target c.requires.target (sym c.is_reserved.ensures ∙ c.if-is_reserved.false)
    (sym c.gives_none.ensures ∙ c.if-gives_none.false))
    c.insert_across.ensures.refused
