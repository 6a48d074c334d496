use Rattle.mrc_classes.proofs.Choosing.{first_before}
use Rattle.mrc_classes.proofs.instances.by_kernel_port.Goals as goal

pub returns-clause-premises : goal.returns-clause-premises
returns-clause-premises c = λ S T.
    first_before (rw (
      c.may-may_share.ensures,
      c.verb_of.ensures,
      c.caller_of.ensures,
      c.kernel_port_held-port.ensures,
      c.wired.ensures,
      c.hold-shared.ensures,
    ) at (c.when.ensures.premises S T))
