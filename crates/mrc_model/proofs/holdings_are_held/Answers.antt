use Rattle.mrc_model.proofs.holdings_are_held.Goals as goal
use Rattle.mrc_model.proofs.HoldingLists.{is_held, held_is}

pub returns : goal.returns
returns c = record { held = λ w t p r. (is_held w t p r, held_is w t p r) }
