use Rattle.std.specs.Vec.Iter.{into_iter_items, into_iter_len}
use Rattle.mrc_death.specs.Plans.{tell_destroyed}
use Rattle.mrc_death.proofs.TellLoops.{SoFar}
use Rattle.mrc_death.proofs.notices.tell_destroyed.Given as goal

abbrev pub invariant-loop-notice : goal.invariant-loop-notice
invariant-loop-notice l =
    SoFar tell_destroyed l.fn.store l.fn.notices.items l.store (into_iter_items l.notice-iterator)
    (into_iter_len l.notice-iterator)
