use Rattle.mrc_cover.proofs.runs_safe.Goals as goal
use Rattle.mrc_cover.proofs.Laws.{runs_are_safe}

pub returns : goal.returns
returns c = record { safe = runs_are_safe }
