-- The seats so far have ended, and each thread that is left keeps its promise.
use Rattle.std.proofs.Common.{◌≡◌, ◌≤◌, ◌+◌, ◌++◌, ℕ, List, MatchResult, Some, map, slice_get}
use Rattle.std.proofs.Common.{vec_capacity, vec_len}
use Rattle.std.specs.Vec.Iter.{into_iter_items, into_iter_len}
use Rattle.mrc_live.specs.Desks.{SeatState}
use Rattle.mrc_report.specs.Plays.{AreEnded, IsPlayed}
use Rattle.mrc_report.proofs.running.join_all.Given as goal

abbrev pub invariant-loop-one : goal.invariant-loop-one
invariant-loop-one g l =
    let rest = l.one-iterator in
    (vec_len l.seats + into_iter_len rest ≡ vec_len l.fn.running)
    × (vec_len l.fn.running ≤ vec_capacity l.seats)
    × ((k : ℕ) (x : _) → slice_get (into_iter_items rest) k ≡ Some x → MatchResult x.thread
    (λ h. (h.promise.seat.value ≡ x.before.value) × (h.promise.script.value ≡ l.script))
    (λ p. IsPlayed l.script x.before.value p.seat p.halt))
    × ((olds : List SeatState) × ((map (λ x. x.before.value) l.fn.running.items
    ≡ olds ++ map (λ x. x.before.value) (into_iter_items rest))
    × AreEnded l.script olds l.seats.items l.first))
