use Rattle.std.proofs.Common.{refl, sym, ◌∙◌, ap}
use Rattle.mrc_model.specs.Map.{get}
use Rattle.mrc_model.proofs.Spaces.{get-unused}
use Rattle.mrc_names.proofs.GivingLaws.{add_refused, added}
use Rattle.mrc_names.proofs.Granting.{granted, wanting}
use Rattle.mrc_names.proofs.space.Space.add.Goals as goal

pub returns-then-is_full-clause-refused : goal.returns-then-is_full-clause-refused
returns-then-is_full-clause-refused c =
    add_refused c.args.self.now c.args.entry (sym c.is_full.ensures ∙ c.if-is_full.true)

pub returns-clause-ok : goal.returns-clause-ok
returns-clause-ok c =
    added c.args.self.now c.put.new.self c.unused-name.result c.args.entry
    (sym c.is_full.ensures ∙ c.if-is_full.false) c.unused-name.ensures c.in_ok-put.ensures.ok

pub returns-in_err-put-clause-refused : goal.returns-in_err-put-clause-refused
returns-in_err-put-clause-refused c =
    wanting c.from_residual.result _ c.from_residual.ensures.1
    (granted _ _ (added c.args.self.now _ _ c.args.entry
    (sym c.is_full.ensures ∙ c.if-is_full.false) refl refl))

pub put-requires-clause-unused : goal.put-requires-clause-unused
put-requires-clause-unused c =
    ap (get c.args.self.now) c.unused-name.ensures ∙ get-unused c.args.self.now
