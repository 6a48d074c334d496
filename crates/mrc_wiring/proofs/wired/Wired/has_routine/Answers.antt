use Rattle.std.proofs.Common.{ap, refl, ◌∙◌}
use Rattle.std.specs.List.{list_any}
use Rattle.mrc_wiring.specs.Table.{wiring_of}
use Rattle.mrc_wiring.specs.Finding.{is_of_routine, is_there_of_routine}
use Rattle.mrc_wiring.proofs.Findings.{any_there, routine_item}
use Rattle.mrc_wiring.proofs.wired.Wired.has_routine.Goals as goal

pub returns : goal.returns
returns c =
    c.has_form_of_routine.ensures
    ∙ any_there is_of_routine is_there_of_routine refl (λ form. refl) c.item_forms.result.now
    ∙ ap (list_any is_of_routine) c.item_forms.ensures
    ∙ routine_item (wiring_of c.args.self.now) c.args.item
