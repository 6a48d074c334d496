use Rattle.std.proofs.Common.{true, false, refl, sym, ap, ◌∙◌, subst}
use Rattle.std.specs.Option.{is_some}
use Rattle.mrc_model.specs.Map.{get, insert, remove}
use Rattle.mrc_names.specs.Bounds.{IsBounded}
use Rattle.mrc_names.proofs.BoundLaws.{bounded_altered}
use Rattle.mrc_names.proofs.RenamingLaws.{no_new_name, no_old_name, new_name_used, renamed}
use Rattle.mrc_names.proofs.RenamingLaws.{moved_bound}
use Rattle.mrc_names.proofs.Granting.{granted, wanting}
use Rattle.mrc_names.proofs.space.Space.rename.Goals as goal

pub returns-then-is_reserved-clause-refused : goal.returns-then-is_reserved-clause-refused
returns-then-is_reserved-clause-refused c =
    no_new_name c.args.self.now c.args.old c.args.new
    (sym c.is_reserved.ensures ∙ c.if-is_reserved.true)

pub returns-in_default-clause-refused : goal.returns-in_default-clause-refused
returns-in_default-clause-refused c =
    no_old_name c.args.self.now c.args.old c.args.new
    (sym c.is_reserved.ensures ∙ c.if-is_reserved.false) (sym c.get.ensures ∙ c.in_default.is)

pub returns-then-is_some-clause-refused : goal.returns-then-is_some-clause-refused
returns-then-is_some-clause-refused c =
    new_name_used c.args.self.now c.args.old c.args.new c.in-Some.held
    (sym c.is_reserved.ensures ∙ c.if-is_reserved.false) (sym c.get.ensures ∙ c.in-Some.is)
    (ap is_some (sym c.get-2.ensures) ∙ sym c.is_some.ensures ∙ c.if-is_some.true)

pub returns-in_err-rename-clause-refused : goal.returns-in_err-rename-clause-refused
returns-in_err-rename-clause-refused c =
    let unused = ap is_some (sym c.get-2.ensures) ∙ sym c.is_some.ensures ∙ c.if-is_some.false in
    wanting c.from_residual.result _ c.from_residual.ensures.1
    (granted _ _ (renamed c.args.self.now _ _ c.args.old c.args.new c.in-Some.held _
    (sym c.is_reserved.ensures ∙ c.if-is_reserved.false) (sym c.get.ensures ∙ c.in-Some.is)
    unused refl refl refl))

pub invariant_of-self-then-is_set : goal.invariant_of-self-then-is_set
invariant_of-self-then-is_set c =
    subst IsBounded (sym c.follow.ensures) (bounded_altered _ _
    (moved_bound c.self.inside.entries c.rename.new.self c.args.old c.args.new c.in-Some.held
    c.self.invariant c.ranges.new.fits
    (ap (λ z. get z c.args.old) c.self.view_is ∙ sym c.get.ensures ∙ c.in-Some.is)
    c.in_ok-rename.ensures.ok))

pub invariant_of-self-else-is_set : goal.invariant_of-self-else-is_set
invariant_of-self-else-is_set c =
    moved_bound c.self.inside.entries c.rename.new.self c.args.old c.args.new c.in-Some.held
    c.self.invariant c.ranges.new.fits
    (ap (λ z. get z c.args.old) c.self.view_is ∙ sym c.get.ensures ∙ c.in-Some.is)
    c.in_ok-rename.ensures.ok

pub returns-then-is_set-clause-ok : goal.returns-then-is_set-clause-ok
returns-then-is_set-clause-ok c =
    let unused = ap is_some (sym c.get-2.ensures) ∙ sym c.is_some.ensures ∙ c.if-is_some.false in
    renamed c.args.self.now c.rename.new.self c.follow.new.self c.args.old c.args.new
    c.in-Some.held true (sym c.is_reserved.ensures ∙ c.if-is_reserved.false)
    (sym c.get.ensures ∙ c.in-Some.is) unused
    (c.in_ok-rename.ensures.ok
    ∙ ap (λ z. insert (remove z c.args.old) c.args.new c.in-Some.held) c.self.view_is)
    (sym c.is_set.ensures ∙ c.if-is_set.true) c.follow.ensures

pub returns-else-is_set-clause-ok : goal.returns-else-is_set-clause-ok
returns-else-is_set-clause-ok c =
    let unused = ap is_some (sym c.get-2.ensures) ∙ sym c.is_some.ensures ∙ c.if-is_some.false in
    renamed c.args.self.now c.rename.new.self c.rename.new.self c.args.old c.args.new
    c.in-Some.held false (sym c.is_reserved.ensures ∙ c.if-is_reserved.false)
    (sym c.get.ensures ∙ c.in-Some.is) unused
    (c.in_ok-rename.ensures.ok
    ∙ ap (λ z. insert (remove z c.args.old) c.args.new c.in-Some.held) c.self.view_is)
    (sym c.is_set.ensures ∙ c.if-is_set.false) refl
