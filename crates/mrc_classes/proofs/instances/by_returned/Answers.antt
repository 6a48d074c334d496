use Rattle.mrc_classes.proofs.Choosing.{first_before}
use Rattle.mrc_classes.proofs.instances.by_returned.Goals as goal

pub returns-clause-premises : goal.returns-clause-premises
returns-clause-premises c = λ S T.
    first_before (rw (c.same_right-is_once.ensures.exact, c.hold.ensures, c.backup.ensures)
    at (c.when.ensures.premises S T))
