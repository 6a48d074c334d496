use Rattle.std.proofs.Common.{sym, ap, ◌∙◌}
use Rattle.std.specs.Option.{is_some}
use Rattle.mrc_names.proofs.SpaceExits.{new_full, new_put}
use Rattle.mrc_names.proofs.Granting.{granted, wanting}
use Rattle.mrc_names.proofs.space.Space.insert_new.Goals as goal

pub returns-then-is_full-clause-refused : goal.returns-then-is_full-clause-refused
returns-then-is_full-clause-refused c =
    let unused = ap is_some (sym c.get.ensures) ∙ sym c.is_some.ensures ∙ c.if-is_some.false in
    new_full c.args.self.now c.args.name c.args.port c.args.right _ unused
    (sym c.is_full.ensures ∙ c.if-is_full.true)

pub returns-clause-ok : goal.returns-clause-ok
returns-clause-ok c =
    let unused = ap is_some (sym c.get.ensures) ∙ sym c.is_some.ensures ∙ c.if-is_some.false in
    let put =
    new_put c.args.self.now c.args.name c.args.port c.args.right _ unused
    (sym c.is_full.ensures ∙ c.if-is_full.false) in
    let done = c.in_ok-put.ensures.ok in
    cc

pub returns-in_err-put-clause-refused : goal.returns-in_err-put-clause-refused
returns-in_err-put-clause-refused c =
    let unused = ap is_some (sym c.get.ensures) ∙ sym c.is_some.ensures ∙ c.if-is_some.false in
    wanting c.from_residual.result _ c.from_residual.ensures.1
    (granted _ _ (new_put c.args.self.now c.args.name c.args.port c.args.right _ unused
    (sym c.is_full.ensures ∙ c.if-is_full.false)))
