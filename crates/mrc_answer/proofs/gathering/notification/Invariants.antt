-- None so far: the first of those that are left is the first of all.
use Rattle.std.proofs.Common.{◌≡◌, drop}
use Rattle.mrc_answer.specs.Notices.{notification_from}
use Rattle.mrc_answer.proofs.gathering.notification.Given as goal

abbrev pub invariant-loop-number : goal.invariant-loop-number
invariant-loop-number l =
    notification_from l.number (drop l.number l.interfaces) ≡ notification_from 0 l.interfaces
