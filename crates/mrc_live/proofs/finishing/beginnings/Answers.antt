use Rattle.mrc_base.specs.Limits.{limit_of_seats}
use Rattle.mrc_live.proofs.Following.{beginning}
use Rattle.mrc_live.proofs.finishing.beginnings.Goals as goal

pub returns : goal.returns
returns c = λ number. beginning limit_of_seats number
