use Rattle.mrc_mig_forms.proofs.FileLemmas.{file_holds}
use Rattle.mrc_mig_forms.proofs.LawLemmas.{form_found}
use Rattle.mrc_mig_forms.proofs.laws.forms_are_found_by_ids.Goals as goal

pub returns : goal.returns
returns c = record {
  found = λ file said kind id form. form_found file (file_holds file said) kind id form;
}
