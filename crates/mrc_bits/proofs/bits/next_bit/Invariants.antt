use Rattle.std.proofs.Common.{◌≡◌, ℕ, ◌+◌, ◌-◌, ◌*◌, ◌<◌, ◌≤◌, false, length}
use Rattle.mrc_bits.specs.Bits.{is_set}
use Rattle.mrc_bits.proofs.bits.next_bit.Given as goal

-- no bit is set up to here
abbrev pub invariant-loop-place : goal.invariant-loop-place
invariant-loop-place l = record {
  start : l.start < 64;
  from_there : l.from ≤ 64 * l.place + l.start;
  none : (j : ℕ) → l.from ≤ j → j < 64 * l.place + l.start → is_set l.words j ≡ false;
}

abbrev pub decreases-loop-place : goal.decreases-loop-place
decreases-loop-place l = length l.words - l.place
