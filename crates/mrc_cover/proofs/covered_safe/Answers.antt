use Rattle.mrc_cover.proofs.covered_safe.Goals as goal
use Rattle.mrc_cover.proofs.Laws.{covered_is_safe}

pub returns : goal.returns
returns c = record { safe = covered_is_safe }
