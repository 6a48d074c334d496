use Rattle.std.proofs.Common.{◌≡◌, ℕ, ◌+◌, ◌-◌, ◌*◌, ◌<◌, ◌≤◌, false, length}
use Rattle.mrc_bits.specs.Bits.{is_fresh}
use Rattle.mrc_bits.proofs.bits.next_fresh.Given as goal

-- no bit is fresh up to here
abbrev pub invariant-loop-place : goal.invariant-loop-place
invariant-loop-place l = record {
  start : l.start < 64;
  from_there : l.from ≤ 64 * l.place + l.start;
  none : (j : ℕ) → l.from ≤ j → j < 64 * l.place + l.start → is_fresh l.words l.more l.mask j ≡ false;
}

abbrev pub decreases-loop-place : goal.decreases-loop-place
decreases-loop-place l = length l.more - l.place
