use Rattle.mrc_cover.proofs.first_covered.Goals as goal
use Rattle.mrc_cover.proofs.Laws.{first_is_covered}

pub returns : goal.returns
returns c = record { covered = first_is_covered }
