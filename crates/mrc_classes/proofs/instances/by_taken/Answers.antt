use Rattle.mrc_wiring.specs.Table.{wiring_of}
use Rattle.mrc_classes.proofs.Choosing.{taken_as_send, taken_as_receive, taken_as_once}
use Rattle.mrc_classes.proofs.instances.by_taken.Goals as goal

pub returns-in-Send-clause-premises : goal.returns-in-Send-clause-premises
returns-in-Send-clause-premises c = λ S T.
    rw (c.in-Send.is, ← taken_as_send (wiring_of c.args.rules.now) T c.args.to c.args.task c.args.class)
    (rw (
      c.sender-sender.ensures S,
      c.hold-received.ensures,
      c.passes-takes_received.ensures,
      c.hold-same.ensures,
      c.passes-takes_same.ensures,
      c.in-Send.is,
    )
    at (c.by_held.ensures.premises S T))

pub returns-in-Receive-clause-premises : goal.returns-in-Receive-clause-premises
returns-in-Receive-clause-premises c = λ S T.
    rw (c.in-Receive.is, ← taken_as_receive (wiring_of c.args.rules.now) T c.args.to c.args.task c.args.class)
    (rw (
      c.sender-sender.ensures S,
      c.hold-received.ensures,
      c.hold-same.ensures,
      c.passes-takes_same.ensures,
      c.in-Receive.is,
    )
    at (c.by_held-in-Receive.ensures.premises S T))

pub returns-in-SendOnce-clause-premises : goal.returns-in-SendOnce-clause-premises
returns-in-SendOnce-clause-premises c = λ S T.
    rw (c.in-SendOnce.is, ← taken_as_once (wiring_of c.args.rules.now) T c.args.to c.args.task c.args.class)
    (rw (
      c.sender-sender.ensures S,
      c.hold-received.ensures,
      c.passes-takes_received.ensures,
      c.hold-same.ensures,
      c.passes-takes_same.ensures,
      c.in-SendOnce.is,
    )
    at (c.by_held-in-SendOnce.ensures.premises S T))
