use Rattle.mrc_death.proofs.Following.{Walk}
use Rattle.mrc_death.proofs.search.Search.wake.Given as goal

abbrev pub invariant-loop-at : goal.invariant-loop-at
invariant-loop-at l = Walk l.store l.doomed l.backup l.fn.self l.self l.at

abbrev pub decreases-loop-at : goal.decreases-loop-at
decreases-loop-at l = l.at
