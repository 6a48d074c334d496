use Rattle.mrc_classes.proofs.Choosing.{within, first_before}
use Rattle.mrc_classes.proofs.instances.by_slot.Goals as goal

pub returns-clause-premises : goal.returns-clause-premises
returns-clause-premises c = λ S T.
    let outer = rw c.may-may_send.ensures at (c.when.ensures.premises S T) in
    first_before (within outer (c.by_taken.ensures.premises S T))

pub returns-clause-count : goal.returns-clause-count
returns-clause-count c = c.when.ensures.count 2 c.by_taken.ensures.count
