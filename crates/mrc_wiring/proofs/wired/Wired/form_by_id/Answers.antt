use Rattle.std.proofs.Common.{ap, sym, ◌∙◌}
use Rattle.std.specs.Option.{option_map}
use Rattle.std.specs.Prelude.{find}
use Rattle.mrc_wiring.specs.Finding.{has_id, placed}
use Rattle.mrc_wiring.proofs.Findings.{messages_not, none_below, found_there}
use Rattle.mrc_wiring.proofs.wired.Wired.form_by_id.Goals as goal

pub returns-in_err-interface : goal.returns-in_err-interface
returns-in_err-interface c =
    ap (option_map _) c.from_residual.ensures
    ∙ ap (find (has_id c.args.id))
    (sym (messages_not c.args.self.now c.args.kind c.args.number (sym c.in_err-interface.ensures)))

pub returns-in_err-place : goal.returns-in_err-place
returns-in_err-place c =
    ap (option_map _) c.from_residual-in_err-place.ensures
    ∙ sym (none_below c.args.self.now c.args.kind c.args.number c.args.id _
    (sym c.in_ok-interface.ensures) c.ids-ids.ensures.formed (sym c.in_err-place.ensures))

pub returns : goal.returns
returns c =
    c.placed.ensures
    ∙ ap (λ forms. placed forms c.in_ok-place.place) c.forms.ensures.exact
    ∙ sym (found_there c.args.self.now c.args.kind c.args.number c.args.id c.in_ok-place.place _
    (sym c.in_ok-interface.ensures) c.ids-ids.ensures.formed (sym c.in_ok-place.ensures))
