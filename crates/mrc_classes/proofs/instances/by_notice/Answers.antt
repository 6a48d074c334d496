use Rattle.std.proofs.Common.{refl}
use Rattle.mrc_classes.proofs.Choosing.{no_first, side, within, both_sides, same_class}
use Rattle.mrc_classes.proofs.instances.by_notice.Goals as goal

pub returns-clause-premises : goal.returns-clause-premises
returns-clause-premises c = λ S T.
    let inner = side (same_class c.args.class c.args.source)
    (rw c.backup.ensures at (c.when.ensures.premises S T)) in
    let outer = rw c.same_right-is_receive.ensures.exact at (c.when-2.ensures.premises S T) in
    no_first (both_sides (within outer inner))

pub returns-clause-count : goal.returns-clause-count
returns-clause-count c = c.when-2.ensures.count 1 (c.when.ensures.count 1 refl)
