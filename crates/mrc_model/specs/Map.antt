-- Believe. Maps from numbers. This profile's own choice of a model for Rust's `BTreeMap`. empty,
-- get, insert, remove, keys, len      as Rust's `BTreeMap` next_key m      one above the last key
-- alter_all g m      each entry changed, or dropped, by g total f m      the sum of f over the
-- entries
use Rattle.std.specs.Prelude.{◌≡◌, ℕ, ◌+◌, T, List, [], ◌∷◌, map, length, Option, Some, None, ◌==◌}
use Rattle.std.specs.Prelude.{if◌then◌else◌}
use Rattle.mrc_model.specs.Rising.{is_rising, find_key, put_key, alter_list, rising-put}
use Rattle.mrc_model.specs.Rising.{rising-alter}

-- the entries; each key stands once, since the keys rise
pub record Map (X : Type 0) : Type 0 where
  pub list : List (ℕ × X)
  pub rising : T (is_rising 0 list)

-- the map with no entry
unfoldable pub empty : {X : Type 0} → Map X
empty = record { list = []; rising = tt }

-- the value at the key
unfoldable pub get : {X : Type 0} → Map X → ℕ → Option X
get m k = find_key k m.list

-- the map with this value at the key
unfoldable pub insert : {X : Type 0} → Map X → ℕ → X → Map X
insert m k v = record { list = put_key k v m.list; rising = rising-put k v m.list m.rising }

-- each entry changed, or dropped
unfoldable pub alter_all : {X Y : Type 0} → (ℕ → X → Option Y) → Map X → Map Y
alter_all g m = record { list = alter_list g m.list; rising = rising-alter g m.list m.rising }

-- the entry, but at this key
abbrev pub all_but : {X : Type 0} → ℕ → ℕ → X → Option X
all_but k q v = if q == k then None else Some v

-- the map without the key
abbrev pub remove : {X : Type 0} → Map X → ℕ → Map X
remove m k = alter_all (all_but k) m

-- how many entries there are
unfoldable pub len : {X : Type 0} → Map X → ℕ
len m = length m.list

-- the keys, ascending
unfoldable pub keys : {X : Type 0} → Map X → List ℕ
keys m = map (λ e. e.0) m.list

-- one above the last of these keys, or k where there are none
abbrev pub key_after : {X : Type 0} → ℕ → List (ℕ × X) → ℕ
key_after k [] = k
key_after k (e ∷ es) = key_after (e.0 + 1) es

-- one above the last key; 0 for the map with no entry
unfoldable pub next_key : {X : Type 0} → Map X → ℕ
next_key m = key_after 0 m.list

-- the sum of f over a list of entries
abbrev pub sum_list : {X : Type 0} → (ℕ → X → ℕ) → List (ℕ × X) → ℕ
sum_list f [] = 0
sum_list f (e ∷ es) = f e.0 e.1 + sum_list f es

-- the sum of f over the entries
unfoldable pub total : {X : Type 0} → (ℕ → X → ℕ) → Map X → ℕ
total f m = sum_list f m.list

-- P holds of each entry
abbrev pub Each : {X : Type 0} → (ℕ → X → Type 0) → Map X → Type 0
Each {X} P m = (k : ℕ) (v : X) → get m k ≡ Some v → P k v
