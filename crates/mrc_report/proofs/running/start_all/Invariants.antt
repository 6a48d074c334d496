-- The seats of the threads so far, and those that are left, are the seats.
use Rattle.std.proofs.Common.{◌≡◌, ◌≤◌, ◌+◌, ◌++◌, ℕ, MatchResult, Some, map, slice_get}
use Rattle.std.proofs.Common.{vec_capacity, vec_len}
use Rattle.std.specs.Vec.Iter.{into_iter_items, into_iter_len}
use Rattle.mrc_report.specs.Plays.{IsPlayed}
use Rattle.mrc_report.proofs.running.start_all.Given as goal

abbrev pub invariant-loop-seat : goal.invariant-loop-seat
invariant-loop-seat g l =
    let rest = l.seat-iterator in
    (vec_len l.running + into_iter_len rest ≡ vec_len l.fn.seats)
    × (vec_len l.fn.seats ≤ vec_capacity l.running)
    × (map (λ x. x.before.value) l.running.items ++ into_iter_items rest ≡ l.fn.seats.items)
    × ((k : ℕ) (x : _) → slice_get l.running.items k ≡ Some x → MatchResult x.thread
    (λ h. (h.promise.seat.value ≡ x.before.value) × (h.promise.script.value ≡ l.script))
    (λ p. IsPlayed l.script x.before.value p.seat p.halt))
