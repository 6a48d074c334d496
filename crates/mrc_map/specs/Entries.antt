-- Believe. Only `map_of`, `IsNext`, `KeepsKeys`: lists of entries, read as the definitions' maps.
-- Lists of entries in code, read as the definitions' maps; the index at which a key stands in such
-- a list, or would stand; and the entry that comes next. This profile's own choice.
use Rattle.std.specs.Prelude.{◌≡◌, ℕ, suc, ◌<◌, ◌≤◌, Bool, true, false, T, List, [], ◌∷◌, length}
use Rattle.std.specs.Prelude.{Option, Some, None, nat_lt, ◌==◌, if◌then◌else◌}
use Rattle.std.specs.List.{slice_get, slice_index_or}
use Rattle.mrc_model.specs.Rising.{is_rising}
use Rattle.mrc_model.specs.Map.{Map, empty, get}

-- the map of a list that passed the test, else the empty one
abbrev pub checked_map :
    {X : Type 0} (b : Bool) (es : List (ℕ × X)) → (T b → T (is_rising 0 es)) → Map X
checked_map true es h = record { list = es; rising = h tt }
checked_map false es h = empty

-- the map with these entries, where their keys rise
unfoldable pub map_of : {X : Type 0} → List (ℕ × X) → Map X
map_of es = checked_map (is_rising 0 es) es (λ h. h)

-- the keys rise
unfoldable pub IsRising : {X : Type 0} → List (ℕ × X) → Type 0
IsRising es = T (is_rising 0 es)

-- how many entries stand before the first whose key is not below k
abbrev pub place : {X : Type 0} → ℕ → List (ℕ × X) → ℕ
place k [] = 0
place k (e ∷ es) = if nat_lt e.0 k then suc (place k es) else 0

-- the value of an entry, if it is the key's
abbrev pub at_key : {X : Type 0} → ℕ → Option (ℕ × X) → Option X
at_key k None = None
at_key k (Some e) = if k == e.0 then Some e.1 else None

-- the key stands at this index
pub record IsAt {X : Type 0} (k : ℕ) (es : List (ℕ × X)) (i : ℕ) : Type 0 where
  pub place : i ≡ place k es
  pub inside : i < length es
  pub key : (d : ℕ × X) → (slice_index_or es i d).0 ≡ k

-- no entry is the key's, and one would stand at this index
pub record IsMissingAt {X : Type 0} (k : ℕ) (es : List (ℕ × X)) (i : ℕ) : Type 0 where
  pub place : i ≡ place k es
  pub within : i ≤ length es
  pub none : at_key k (slice_get es i) ≡ None

-- each call leaves an entry its key, says true, and leaves the closure as it was
abbrev pub KeepsKeys : {F X : Type 0}
    → (F → ℕ × X → Bool → F → ℕ × X → Type 0)
    → F
    → Type 0
KeepsKeys {F} {X} R f =
    (e d : ℕ × X) (b : Bool) (g : F)
    → R f e b g d
    → (b ≡ true) × (d.0 ≡ e.0) × (g ≡ f)

-- the number, where it is below the limit
abbrev pub below : ℕ → ℕ → Option ℕ
below limit k = if nat_lt k limit then Some k else None

-- the entry is the first whose key is not below from
pub record IsNext {X : Type 0} (m : Map X) (from k : ℕ) (v : X) : Type 0 where
  pub at : get m k ≡ Some v
  pub above : from ≤ k
  pub first : (j : ℕ) → from ≤ j → j < k → get m j ≡ None
