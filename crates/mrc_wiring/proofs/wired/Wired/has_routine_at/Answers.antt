use Rattle.std.proofs.Common.{ap, refl, ◌∙◌}
use Rattle.std.specs.List.{list_any}
use Rattle.mrc_base.proofs.Lists.{any_map}
use Rattle.mrc_model.specs.Wiring.{OfRequest, interface}
use Rattle.mrc_wiring.specs.Table.{wiring_of}
use Rattle.mrc_wiring.specs.Finding.{is_of_id, is_there_of_id}
use Rattle.mrc_wiring.proofs.Findings.{any_there}
use Rattle.mrc_wiring.proofs.wired.Wired.has_routine_at.Goals as goal

pub returns : goal.returns
returns c =
    let id = c.args.id in
    c.has_form_of_id.ensures
    ∙ any_there (is_of_id id) (is_there_of_id id) refl (λ form. refl) c.item_forms.result.now
    ∙ ap (list_any (is_of_id id)) c.item_forms.ensures
    ∙ any_map (is_of_id id) OfRequest
    (interface (wiring_of c.args.self.now) c.args.number).requests
