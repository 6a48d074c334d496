use Rattle.std.proofs.Common.{refl}
use Rattle.mrc_classes.proofs.Choosing.{no_first, no_last, side, within, both_sides, same_class}
use Rattle.mrc_classes.proofs.instances.by_births.Goals as goal

pub returns-clause-premises : goal.returns-clause-premises
returns-clause-premises c = λ S T.
    let birth = rw c.wired.ensures at c.is_birth_class-is_birth.ensures in
    let last = no_last birth (c.when.ensures.premises S T) in
    let inner = side (same_class c.args.class c.args.source)
    (within (c.when-at_source.ensures.premises S T) last) in
    let outer = rw c.same_right-is_receive.ensures.exact at (c.when-2.ensures.premises S T) in
    no_first (both_sides (within outer inner))

pub returns-clause-count : goal.returns-clause-count
returns-clause-count c =
    c.when-2.ensures.count 0 (c.when-at_source.ensures.count 0 (c.when.ensures.count 0 refl))
