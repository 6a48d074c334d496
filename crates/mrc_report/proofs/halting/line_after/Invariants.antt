-- The lines of the task so far, and those that it has said besides.
use Rattle.std.proofs.Common.{◌≡◌, ◌+◌, length, take}
use Rattle.mrc_report.specs.Halts.{lines_of}
use Rattle.mrc_report.proofs.halting.line_after.Given as goal

abbrev pub invariant-loop-line : goal.invariant-loop-line
invariant-loop-line l =
    l.left + length (lines_of l.fn.task (take l.line-index l.lines)) ≡ l.fn.said
