-- The lines so far are those that were taken.
use Rattle.std.proofs.Common.{◌≡◌}
use Rattle.mrc_wide_text.proofs.reading.said_lines.Given as goal

abbrev pub invariant-loop-line : goal.invariant-loop-line
invariant-loop-line l = l.lines.items ≡ l.yielded
