use Rattle.mrc_model.proofs.spaces_kept.Goals as goal
use Rattle.mrc_model.proofs.KeptCalls.{first_kept, step_kept}

pub returns : goal.returns
returns c = record {
  first = λ W. (first_kept W).of;
  kept = λ W w t call is. (step_kept W w t call record { of = is }).of;
}
