-- The heading of what is left is that of the text.
use Rattle.std.proofs.Common.{◌≡◌, ◌≤◌, ◌+◌, length}
use Rattle.mrc_wiring_text.specs.Lexis.{lines}
use Rattle.mrc_wide_text.specs.WideReading.{heading}
use Rattle.mrc_wide_text.proofs.reading.heading.Given as goal

abbrev pub invariant-loop-rest : goal.invariant-loop-rest
invariant-loop-rest l = record {
  same : heading (l.before + 1) (lines l.rest) ≡ heading 1 (lines l.text);
  room : l.before + length l.rest ≤ length l.text;
}

abbrev pub decreases-loop-rest : goal.decreases-loop-rest
decreases-loop-rest l = length l.rest
