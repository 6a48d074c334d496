use Rattle.std.proofs.Common.{Some, ap, sym, ◌∙◌, subst}
use Rattle.std.specs.Prelude.{IsSome}
use Rattle.mrc_model.specs.Map.{get}
use Rattle.mrc_names.specs.Bounds.{IsBounded}
use Rattle.mrc_names.proofs.BoundLaws.{bounded_old, bounded_less}
use Rattle.mrc_names.proofs.LeavingLaws.{fits, has_name}
use Rattle.mrc_names.proofs.space.Space.leave.Goals as goal

pub set-requires : goal.set-requires
set-requires c =
    let has = fits c.args.self.now c.args.name c.args.rest c.in-Some.left c.in-Some.is c.requires in
    (has.0, ap (λ x. get x c.args.name) c.self.view_is ∙ has.1, has.2)

pub invariant_of-self : goal.invariant_of-self
invariant_of-self c =
    let has = fits c.args.self.now c.args.name c.args.rest c.in-Some.left c.in-Some.is c.requires in
    let used = subst (λ x. IsSome (get x c.args.name)) (sym c.self.view_is)
    (has_name c.args.self.now c.args.name (Some c.in-Some.left) has) in
    subst IsBounded (sym c.set.ensures)
    (bounded_old _ c.args.name c.in-Some.left c.self.invariant used)

pub invariant_of-self-in-None : goal.invariant_of-self-in-None
invariant_of-self-in-None c =
    subst IsBounded (sym c.remove.ensures.removed) (bounded_less _ c.args.name c.self.invariant)
