use Rattle.std.proofs.Common.{◌≡◌, ◌<◌, ℕ, Some, slice_get, take}
use Rattle.mrc_live.specs.declared.event.Event.{Event}
use Rattle.mrc_live.specs.Parts.{Continues, Follows, IsSeated}
use Rattle.mrc_live.proofs.finishing.first_difference.Given as goal

abbrev pub invariant-loop-k : goal.invariant-loop-k
invariant-loop-k g l =
    Follows l.seats l.next (take l.k l.events)
    × ((j : ℕ) (e : Event) → j < l.k → slice_get l.events j ≡ Some e → IsSeated l.seats e)
    × ((j : ℕ) (e : Event) → j < l.k → slice_get l.events j ≡ Some e
    → Continues l.seats (take j l.events) e)
