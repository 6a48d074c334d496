use Rattle.std.proofs.Common.{sym, ap, ◌∙◌, subst, Ok}
use Rattle.std.specs.Prelude.{IsSome}
use Rattle.std.proofs.lemmas.Result.{err_from_is_err_and}
use Rattle.mrc_model.specs.Map.{get, insert}
use Rattle.mrc_names.specs.Bounds.{IsBounded}
use Rattle.mrc_names.specs.Refusals.{IsRefusal}
use Rattle.mrc_names.proofs.BoundLaws.{bounded_old, found_used}
use Rattle.mrc_names.proofs.GivingLaws.{given_joined}
use Rattle.mrc_model.proofs.Spaces.{entry_of-some}
use Rattle.mrc_model.proofs.Maps.{get-insert_same}
use Rattle.mrc_index.specs.Names.{HoldsAlike}
use Rattle.mrc_index.proofs.UndoLaws.{joined_alike, put_again, alike_back}
use Rattle.mrc_names.proofs.space.Space.give.Goals as goal

pub returns-in_ok-name-in-None-clause-ok : goal.returns-in_ok-name-in-None-clause-ok
returns-in_ok-name-in-None-clause-ok c =
    c.in-None.ensures.none ∙ c.in_ok-name-in-None.ensures.ok

pub returns-in_err-name-in-None-clause-refused : goal.returns-in_err-name-in-None-clause-refused
returns-in_err-name-in-None-clause-refused c =
    let p = err_from_is_err_and c.from_residual.result c.from_residual.ensures.1 in
    rw (p.1, p.2) (subst (IsRefusal c.in_err-name-in-None.field-0.0) (sym c.in-None.ensures.none)
    c.in_err-name-in-None.ensures.refused)

pub set-requires : goal.set-requires
set-requires c =
    let there = entry_of-some c.args.self.now c.args.port c.in-Some.held c.in-Some.ensures.some.1
    in (
      c.in-Some.held.1,
      ap (λ x. get x c.in-Some.held.0) c.self.view_is ∙ there.0,
      subst (HoldsAlike c.in-Some.held.1) (sym c.joined.ensures)
          (joined_alike c.in-Some.held.1 c.args.right),
    )

pub invariant_of-self : goal.invariant_of-self
invariant_of-self c =
    let used = subst (λ x. IsSome (get x c.in-Some.held.0)) (sym c.self.view_is)
    (found_used c.args.self.now c.args.port c.in-Some.held c.in-Some.ensures.some.1) in
    subst IsBounded (sym c.set.ensures)
    (bounded_old _ c.in-Some.held.0 c.joined.result c.self.invariant used)

pub returns-in-Some-clause-ok : goal.returns-in-Some-clause-ok
returns-in-Some-clause-ok c =
    let bounds = subst IsBounded c.self.view_is c.self.invariant in
    let at = given_joined c.args.self.now c.args.port c.args.right c.in-Some.held bounds
    c.in-Some.ensures.some.0 c.in-Some.ensures.some.1 in
    let kept = ap (λ x. insert x c.in-Some.held.0 c.joined.result) c.self.view_is
    ∙ ap (insert c.args.self.now c.in-Some.held.0) c.joined.ensures in
    at ∙ ap (λ y. Ok (y, c.in-Some.held.0)) (sym (c.set.ensures ∙ kept))

pub returns-in-Some-clause-back : goal.returns-in-Some-clause-back
returns-in-Some-clause-back c =
    let there = entry_of-some c.args.self.now c.args.port c.in-Some.held c.in-Some.ensures.some.1
    in
    let set = c.set.ensures
    ∙ ap (λ x. insert x c.in-Some.held.0 c.joined.result) c.self.view_is in
    ap (λ z. insert z c.in-Some.held.0 c.in-Some.held.1) set
    ∙ put_again c.args.self.now c.in-Some.held.0 c.joined.result c.in-Some.held.1 there.0

pub returns-in-Some-clause-ready : goal.returns-in-Some-clause-ready
returns-in-Some-clause-ready c = (
  c.joined.result,
  ap (λ z. get z c.in-Some.held.0) c.set.ensures ∙ get-insert_same _ c.in-Some.held.0
      c.joined.result,
  alike_back c.in-Some.held.1 c.joined.result
      (subst (HoldsAlike c.in-Some.held.1) (sym c.joined.ensures)
      (joined_alike c.in-Some.held.1 c.args.right)),
)
