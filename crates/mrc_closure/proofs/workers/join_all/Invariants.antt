-- What the workers so far found is put together, unless one failed, and each of the rest is the
-- next one.
use Rattle.std.proofs.Common.{◌≡◌, ◌≤◌, ◌+◌, ◌-◌, ℕ, Some, slice_get, vec_len, true}
use Rattle.std.specs.Vec.Iter.{into_iter_items, into_iter_len}
use Rattle.mrc_wiring.specs.Table.{wiring_of}
use Rattle.mrc_classes.specs.Following.{IsListOf}
use Rattle.mrc_closure.specs.Dealing.{FromFirst}
use Rattle.mrc_closure.specs.Working.{IsWorking}
use Rattle.mrc_closure.proofs.workers.join_all.Given as goal

abbrev pub invariant-loop-one : goal.invariant-loop-one
invariant-loop-one g l = record {
  few : into_iter_len l.one-iterator ≤ vec_len l.fn.working;
  rest : (k : ℕ) (h : _) → slice_get (into_iter_items l.one-iterator) k ≡ Some h
      → IsWorking l.rules l.facts l.new ((vec_len l.fn.working - into_iter_len l.one-iterator) + k) l.workers h.promise;
  found : l.whole ≡ true
      → IsListOf (FromFirst (wiring_of l.rules) l.facts l.new (vec_len l.fn.working - into_iter_len l.one-iterator) l.workers) l.all;
}
