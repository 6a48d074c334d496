-- Step. Names by ports, as pairs. This profile's own choice.
use Rattle.std.specs.Prelude.{◌≡◌, ℕ, ◌<◌, ◌≤◌, Bool, true, false, List}
use Rattle.std.specs.List.{list_any}
use Rattle.std.specs.Ordering.{nat_cmp, ordering_then}
use Rattle.std.specs.declared.cmp.Ordering.{Ordering}
use Rattle.std.specs.BTreeMap.{is_at}

-- pairs in the order of their ports, then of their names
abbrev pub pair_cmp : ℕ × ℕ → ℕ × ℕ → Ordering
pair_cmp x y = ordering_then (nat_cmp x.0 y.0) (nat_cmp x.1 y.1)

-- the name n belongs to the port p
abbrev pub has_pair : List (ℕ × ℕ) → ℕ → ℕ → Bool
has_pair pairs p n = list_any (is_at (pair_cmp (p, n))) pairs

-- n is the least name of the port p from k on
pub record IsLeast (pairs : List (ℕ × ℕ)) (p k n : ℕ) : Type 0 where
  pub has : has_pair pairs p n ≡ true
  pub above : k ≤ n
  pub least : (m : ℕ) → k ≤ m → m < n → has_pair pairs p m ≡ false
