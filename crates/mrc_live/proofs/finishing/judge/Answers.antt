use Rattle.std.proofs.Common.{rules}
use Rattle.mrc_live.proofs.Following.{placed_apart}
use Rattle.mrc_live.proofs.finishing.judge.Goals as goal

pub returns-clause-apart : goal.returns-clause-apart
returns-clause-apart g c = placed_apart c.args.seats.now c.places_of-places.result
    (c.if-not-are_placed.ensures.placed (search rules))
