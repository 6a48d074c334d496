use Rattle.std.proofs.Common.{◌≡◌, ◌^◌, ℕ, ◌<◌, ◌⊎◌, false, None}
use Rattle.std.specs.Prelude.{IfSome}
use Rattle.mrc_rows.specs.Rows.{is_key, IsFrom}
use Rattle.mrc_rows.specs.Planes.{key_behind}
use Rattle.mrc_rows.proofs.row_facts.next_key.Given as goal

-- no key of a fact comes before this one
abbrev pub invariant-loop-k : goal.invariant-loop-k
invariant-loop-k l = record {
  start : ((l.k ≡ l.group) × (l.start ≡ l.fn.behind)) ⊎ ((l.group < l.k) × (l.start ≡ None));
  low : IfSome l.start (λ place. place.0 < 2 ^ 16);
  none : (j m : ℕ) → IsFrom l.group (key_behind l.fn.behind) j m
      → (j < l.k) ⊎ ((j ≡ l.k) × (m < key_behind l.start)) → is_key l.rows j m ≡ false;
}
