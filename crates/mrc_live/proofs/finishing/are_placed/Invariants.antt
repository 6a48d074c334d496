use Rattle.std.proofs.Common.{◌≡◌, ◌<◌, ℕ, Some, slice_get, slice_index}
use Rattle.mrc_base.specs.Limits.{limit_of_seats}
use Rattle.mrc_live.specs.Desks.{SeatState}
use Rattle.mrc_live.proofs.finishing.are_placed.Given as goal

abbrev pub invariant-loop-i : goal.invariant-loop-i
invariant-loop-i g l = (k : ℕ) (s : SeatState) → k < l.i → slice_get l.seats k ≡ Some s
    → (s.number < limit_of_seats) × (slice_index l.places s.number ≡ k)
