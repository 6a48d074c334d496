use Rattle.std.proofs.Common.{◌≡◌, subst, Some, ◌↔◌}
use Rattle.mrc_forms.specs.Tables.{Table, message_of, form_of}
use Rattle.mrc_interface.specs.Laws.{HasForm}
use Rattle.mrc_interface.proofs.Finding.{rows_of_table, form_found}
use Rattle.mrc_interface.proofs.laws.forms_are_found_by_ids.Goals as goal

pub returns : goal.returns
returns c = record {
  found = λ m table is kind id form.
      let (rows, all, same) = rows_of_table m table is in
      subst
      (λ (t : Table). (form_of kind t id ≡ Some form)
      ↔ (HasForm m form × (message_of form.kind ≡ kind) × (form.id ≡ id)))
      same (form_found m rows all kind id form);
}
