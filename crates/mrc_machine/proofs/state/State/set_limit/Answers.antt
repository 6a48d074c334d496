use Rattle.std.proofs.Common.{sym, ap, ◌∙◌}
use Rattle.mrc_model.specs.World.{World, Store}
use Rattle.mrc_machine.specs.Moves.{limited}
use Rattle.mrc_machine.proofs.HousingLaws.{housed_same}
use Rattle.mrc_machine.proofs.StoreLaws.{limit_set, limit_refused, limit_keeps}
use Rattle.mrc_machine.proofs.state.State.set_limit.Goals as goal

pub invariant_of-self : goal.invariant_of-self
invariant_of-self c =
    let was : World = record { tasks = c.self.inside.tasks; store = c.self.inside.store } in
    housed_same _ _ _ c.self.invariant
    (limit_keeps was _ c.args.port c.args.limit _ c.set_limit.ensures.limit
    c.set_limit.ensures.absent)

pub invariant_of-self-2 : goal.invariant_of-self-2
invariant_of-self-2 c =
    let was : World = record { tasks = c.self.inside.tasks; store = c.self.inside.store } in
    housed_same _ _ _ c.self.invariant
    (limit_keeps was _ c.args.port c.args.limit _ c.set_limit.ensures.limit
    c.set_limit.ensures.absent)

pub returns-then-is_err-clause-refused : goal.returns-then-is_err-clause-refused
returns-then-is_err-clause-refused c =
    let was : World = record { tasks = c.self.inside.tasks; store = c.self.inside.store } in
    ap (λ (w : World). limited w c.args.port c.args.limit) (sym c.self.view_is)
    ∙ (limit_refused was _ c.args.port c.args.limit _ c.set_limit.ensures.limit
    c.set_limit.ensures.absent (sym c.is_err.ensures.value ∙ c.if-is_err.true)).0

pub returns-then-is_err-clause-err : goal.returns-then-is_err-clause-err
returns-then-is_err-clause-err c =
    let was : World = record { tasks = c.self.inside.tasks; store = c.self.inside.store } in
    let same = (limit_refused was _ c.args.port c.args.limit _ c.set_limit.ensures.limit
    c.set_limit.ensures.absent (sym c.is_err.ensures.value ∙ c.if-is_err.true)).1 in
    ap (λ (s : Store). record was { store = s }) same ∙ c.self.view_is

pub returns-clause-ok : goal.returns-clause-ok
returns-clause-ok c =
    let was : World = record { tasks = c.self.inside.tasks; store = c.self.inside.store } in
    ap (λ (w : World). limited w c.args.port c.args.limit) (sym c.self.view_is)
    ∙ limit_set was _ c.args.port c.args.limit _ c.set_limit.ensures.limit
    c.set_limit.ensures.absent (sym c.is_err.ensures.value ∙ c.if-is_err.false)
