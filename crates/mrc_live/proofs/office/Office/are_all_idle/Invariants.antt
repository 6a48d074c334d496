use Rattle.std.proofs.Common.{◌<◌, ℕ}
use Rattle.mrc_live.specs.Waits.{IsIdle, noted}
use Rattle.mrc_live.proofs.office.Office.are_all_idle.Given as goal

abbrev pub invariant-loop-number : goal.invariant-loop-number
invariant-loop-number g l = (k : ℕ) → k < l.number → IsIdle (noted l.self.idle k)
