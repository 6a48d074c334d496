use Rattle.std.proofs.Common.{◌<◌, ℕ}
use Rattle.mrc_live.specs.Waits.{AreBelow, IsInVain, noted}
use Rattle.mrc_live.proofs.office.wake.Given as goal

abbrev pub invariant-loop-number : goal.invariant-loop-number
invariant-loop-number g l =
    AreBelow l.bound l.idle × ((k : ℕ) → k < l.number → IsInVain l.desk (noted l.idle k))
