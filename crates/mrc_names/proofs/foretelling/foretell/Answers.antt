use Rattle.std.proofs.Common.{sym, ap, ◌∙◌, subst}
use Rattle.mrc_model.specs.Space.{insert_new, insert_joined}
use Rattle.mrc_names.specs.Refusals.{Foretells}
use Rattle.mrc_names.proofs.SpaceExits.{at_sent_once, at_other, at_known}
use Rattle.mrc_names.proofs.foretelling.foretell.Goals as goal

pub returns-in-SendOnce : goal.returns-in-SendOnce
returns-in-SendOnce c = λ x known held full.
    let at = at_sent_once x c.args.name c.args.port c.args.right c.in-SendOnce.is
    ∙ ap (insert_new x c.args.name c.args.port c.args.right) held in
    subst (Foretells c.foretell_new.result) (sym at)
    (c.foretell_new.ensures x c.args.name c.args.port c.args.right full)

pub returns-then-is_other : goal.returns-then-is_other
returns-then-is_other c = λ x known held full.
    at_other x c.args.name c.args.port c.args.right c.in_default.not-SendOnce
    (sym (c.is_other.ensures _ known) ∙ c.if-is_other.true)

pub returns : goal.returns
returns c = λ x known held full.
    let at = at_known x c.args.name c.args.port c.args.right c.in_default.not-SendOnce
    (sym (c.is_other.ensures _ known) ∙ c.if-is_other.false)
    ∙ ap (insert_joined x c.args.name c.args.port c.args.right) held in
    subst (Foretells c.foretell_joined.result) (sym at)
    (c.foretell_joined.ensures x c.args.name full)
