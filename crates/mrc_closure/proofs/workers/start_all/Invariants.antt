-- Each worker so far is at its places.
use Rattle.std.proofs.Common.{◌≡◌, ◌≤◌, ℕ, Some, slice_get, vec_capacity, vec_len}
use Rattle.mrc_closure.specs.Working.{IsWorking}
use Rattle.mrc_closure.proofs.workers.start_all.Given as goal

abbrev pub invariant-loop-worker : goal.invariant-loop-worker
invariant-loop-worker g l =
    (vec_len l.working ≡ l.worker) × (l.workers ≤ vec_capacity l.working)
    × ((k : ℕ) (h : _) → slice_get l.working.items k ≡ Some h
    → IsWorking l.rules l.facts l.new k l.workers h.promise)
