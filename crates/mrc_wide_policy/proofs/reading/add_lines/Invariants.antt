-- What the lines so far say, and those of the rest.
use Rattle.std.proofs.Common.{◌≡◌, ◌≤◌, ◌+◌, length, None}
use Rattle.mrc_wiring_text.specs.Lexis.{lines}
use Rattle.mrc_wide_policy.specs.PolicyReading.{add_lines}
use Rattle.mrc_wide_policy.proofs.reading.add_lines.Given as goal

abbrev pub invariant-loop-rest : goal.invariant-loop-rest
invariant-loop-rest l = record {
  same : add_lines l.number l.so_far (lines l.rest) ≡ add_lines 1 None (lines l.text);
  room : l.number + length l.rest ≤ length l.text + 1;
}

abbrev pub decreases-loop-rest : goal.decreases-loop-rest
decreases-loop-rest l = length l.rest
