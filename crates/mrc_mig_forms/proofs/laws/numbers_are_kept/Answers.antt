use Rattle.mrc_mig_forms.proofs.ShapeLemmas.{shape_kept}
use Rattle.mrc_mig_forms.proofs.laws.numbers_are_kept.Goals as goal

pub returns : goal.returns
returns c = record { kept = λ meaning judged. (shape_kept meaning judged).numbers }
