use Rattle.std.proofs.Common.{sym, ◌∙◌, ap}
use Rattle.mrc_names.proofs.GivingLaws.{new_refused, new_given, given_as_new}
use Rattle.mrc_names.proofs.Granting.{granted, wanting}
use Rattle.mrc_model.specs.Map.{get, remove}
use Rattle.mrc_model.proofs.Spaces.{get-unused}
use Rattle.mrc_index.proofs.UndoLaws.{took_back}
use Rattle.mrc_names.proofs.space.Space.give_new.Goals as goal

pub returns-then-is_full-clause-refused : goal.returns-then-is_full-clause-refused
returns-then-is_full-clause-refused c =
    new_refused c.args.self.now c.args.port c.args.right (sym c.is_full.ensures ∙ c.if-is_full.true)

pub returns-clause-ok : goal.returns-clause-ok
returns-clause-ok c =
    given_as_new c.args.self.now c.put.new.self c.args.port c.args.right c.unused-name.result
    c.new_entry.result (sym c.is_full.ensures ∙ c.if-is_full.false) c.unused-name.ensures
    c.new_entry.ensures c.in_ok-put.ensures.ok

pub returns-in_err-put-clause-refused : goal.returns-in_err-put-clause-refused
returns-in_err-put-clause-refused c =
    wanting c.from_residual.result _ c.from_residual.ensures.1
    (granted _ _ (new_given c.args.self.now c.args.port c.args.right
    (sym c.is_full.ensures ∙ c.if-is_full.false)))

pub put-requires-clause-unused : goal.put-requires-clause-unused
put-requires-clause-unused c =
    ap (get c.args.self.now) c.unused-name.ensures ∙ get-unused c.args.self.now

pub returns-clause-back : goal.returns-clause-back
returns-clause-back c =
    ap (λ z. remove z c.unused-name.result) c.in_ok-put.ensures.ok
    ∙ took_back c.args.self.now c.unused-name.result c.new_entry.result
    (ap (get c.args.self.now) c.unused-name.ensures ∙ get-unused c.args.self.now)
