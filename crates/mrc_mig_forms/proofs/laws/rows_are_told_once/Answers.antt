use Rattle.mrc_mig_forms.proofs.FileLemmas.{file_holds}
use Rattle.mrc_mig_forms.proofs.LawLemmas.{each_once}
use Rattle.mrc_mig_forms.proofs.laws.rows_are_told_once.Goals as goal

pub returns : goal.returns
returns c = record {
  once = λ file said row there. each_once file (file_holds file said) row there;
}
