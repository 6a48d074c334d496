use Rattle.std.proofs.Common.{◌≡◌, ◌*◌, ◌^◌, ◌<◌, ◌≤◌, ◌-◌, length, drop}
use Rattle.mrc_message_words.specs.Values.{number_bytes}
use Rattle.mrc_message_words.proofs.numbers.number_at.Given as goal

abbrev pub invariant-loop-place : goal.invariant-loop-place
invariant-loop-place l = record {
  within : l.place ≤ length l.bytes;
  back : number_bytes (length l.bytes - l.place) l.number ≡ drop l.place l.bytes;
  fits : l.number < 2 ^ (8 * (length l.bytes - l.place));
}

abbrev pub decreases-loop-place : goal.decreases-loop-place
decreases-loop-place l = l.place
