use Rattle.mrc_classes.proofs.Choosing.{no_first}
use Rattle.mrc_classes.proofs.instances.by_weaker.Goals as goal

pub returns-clause-premises : goal.returns-clause-premises
returns-clause-premises c = λ S T.
    no_first (rw (c.same_right-is_receive.ensures.exact, c.hold.ensures)
    at (c.when.ensures.premises S T))
