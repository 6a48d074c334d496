use Rattle.mrc_classes.proofs.Choosing.{no_first, no_last}
use Rattle.mrc_classes.proofs.instances.by_first.Goals as goal

pub returns-clause-premises : goal.returns-clause-premises
returns-clause-premises c = λ S T.
    let held = rw c.hold.ensures at c.is_held_at_first-is_held.ensures in
    no_first (no_last held (c.when.ensures.premises S T))
