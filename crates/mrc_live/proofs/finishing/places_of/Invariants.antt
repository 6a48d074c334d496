use Rattle.std.proofs.Common.{◌≡◌, ◌<◌, ℕ, Some, length, slice_get}
use Rattle.mrc_base.specs.Limits.{limit_of_seats}
use Rattle.mrc_live.specs.Desks.{SeatState}
use Rattle.mrc_live.specs.Parts.{HasPlace}
use Rattle.mrc_live.proofs.finishing.places_of.Given as goal

abbrev pub invariant-loop-i : goal.invariant-loop-i
invariant-loop-i g l =
    (length l.places ≡ limit_of_seats)
    × ((k : ℕ) (s : SeatState) → k < l.i → slice_get l.seats k ≡ Some s
    → HasPlace l.seats l.places s)
