use Rattle.std.proofs.Common.{refl}
use Rattle.mrc_classes.proofs.Choosing.{within, first_before_three}
use Rattle.mrc_classes.proofs.instances.by_reply.Goals as goal

pub returns-clause-premises : goal.returns-clause-premises
returns-clause-premises c = λ S T.
    let inner = rw (c.may-may_reply.ensures, c.sender.ensures S, c.hold.ensures)
    at (c.when.ensures.premises S T) in
    let middle = rw c.accepts_replier-fits.ensures at (c.when-2.ensures.premises S T) in
    let outer = rw c.same_right-is_once.ensures.exact at (c.when-3.ensures.premises S T) in
    first_before_three (within outer (within middle inner))

pub returns-clause-count : goal.returns-clause-count
returns-clause-count c =
    c.when-3.ensures.count 2 (c.when-2.ensures.count 2 (c.when.ensures.count 2 refl))
