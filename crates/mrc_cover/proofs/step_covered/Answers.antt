use Rattle.mrc_cover.proofs.step_covered.Goals as goal
use Rattle.mrc_cover.proofs.Laws.{step_is_covered}

pub returns : goal.returns
returns c = record { kept = step_is_covered }
