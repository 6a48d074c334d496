use Rattle.std.proofs.Common.{refl}
use Rattle.mrc_classes.proofs.Choosing.{within, first_before_two}
use Rattle.mrc_classes.proofs.instances.by_request.Goals as goal

pub returns-clause-premises : goal.returns-clause-premises
returns-clause-premises c = λ S T.
    let inner = rw (c.is_notified.ensures, c.hold.ensures, c.hold-2.ensures)
    at (c.when.ensures.premises S T) in
    let outer = rw c.same_right-is_send.ensures.exact at (c.when-2.ensures.premises S T) in
    first_before_two (within outer inner)

pub returns-clause-count : goal.returns-clause-count
returns-clause-count c = c.when-2.ensures.count 2 (c.when.ensures.count 2 refl)
