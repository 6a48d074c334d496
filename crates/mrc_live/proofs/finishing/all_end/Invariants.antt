use Rattle.std.proofs.Common.{◌≡◌, ◌<◌, ℕ, Some, slice_get, slice_index, length}
use Rattle.mrc_live.specs.Desks.{SeatState}
use Rattle.mrc_live.proofs.finishing.all_end.Given as goal

abbrev pub invariant-loop-i : goal.invariant-loop-i
invariant-loop-i g l = (k : ℕ) (s : SeatState) → k < l.i → slice_get l.seats k ≡ Some s
    → slice_index l.next s.number ≡ length s.calls
