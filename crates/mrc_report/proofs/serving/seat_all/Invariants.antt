-- Each seat so far is that of the task of its place.
use Rattle.std.proofs.Common.{◌≡◌, ◌≤◌, vec_capacity, vec_len}
use Rattle.mrc_confine.specs.Guards.{wiring_in}
use Rattle.mrc_report.specs.Plays.{AreFresh}
use Rattle.mrc_report.proofs.serving.seat_all.Given as goal

abbrev pub invariant-loop-task : goal.invariant-loop-task
invariant-loop-task g l =
    (vec_len l.seats ≡ l.task) × ((wiring_in l.live).tasks ≤ vec_capacity l.seats)
    × AreFresh l.seats.items
