-- What is left so far, with what is left of the rest, is what is left of all.
use Rattle.std.proofs.Common.{◌≡◌, ◌+◌, ◌≤◌, ◌++◌, length}
use Rattle.mrc_wiring_text.specs.Lexis.{lines}
use Rattle.mrc_mend.specs.Mending.{lines_left}
use Rattle.mrc_mend.proofs.changes.lines_left.Given as goal

abbrev pub invariant-loop-rest : goal.invariant-loop-rest
invariant-loop-rest l = record {
  same : l.text.items ++ lines_left l.changes (l.before + 1) (lines l.rest)
      ≡ lines_left l.changes 1 (lines l.wiring);
  room : l.before + length l.rest ≤ length l.wiring;
}

abbrev pub decreases-loop-rest : goal.decreases-loop-rest
decreases-loop-rest l = length l.rest
