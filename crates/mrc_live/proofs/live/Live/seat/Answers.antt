use Rattle.mrc_live.proofs.Noting.{noted_alike}
use Rattle.mrc_live.proofs.live.Live.seat.Goals as goal

-- a new seat changes nothing for those that wait
pub invariant_of-behind-lock : goal.invariant_of-behind-lock
invariant_of-behind-lock g c =
    let was = c.behind-lock.inside in
    noted_alike was.desk c.seat.new.self was.idle was.bound c.seat.ensures.kept
    c.behind-lock.invariant
