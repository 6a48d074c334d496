-- Step. The first places of the types of port arguments, by interfaces, in maps by names. This
-- profile's own choice.
use Rattle.std.specs.Prelude.{◌≡◌, ◌<◌, ℕ, List, Option, Some, None, String, position, slice_get}
use Rattle.std.specs.BTreeMap.{BTreeMap, get_by_text}
use Rattle.std.specs.List.{AllByRecursion}
use Rattle.mrc_wiring.specs.Sorts.{Sort, is_sort}

-- the map has the first place of each type of the interface of this number
abbrev pub IsFirsts : {Y : Type 0} → ℕ → List Sort → BTreeMap (String Y) ℕ → Type 0
IsFirsts s sorts firsts =
    (name : List ℕ) → get_by_text firsts name ≡ position (is_sort s name) sorts

-- the place that a map has for the name, if there is a map
abbrev pub place_in : {Y : Type 0} → Option (BTreeMap (String Y) ℕ) → List ℕ → Option ℕ
place_in None name = None
place_in (Some firsts) name = get_by_text firsts name

-- the maps have the first place of each type, by interfaces
abbrev pub HasFirsts : {Y : Type 0} → List Sort → List (BTreeMap (String Y) ℕ) → Type 0
HasFirsts sorts firsts =
    (s : ℕ) (name : List ℕ)
    → place_in (slice_get firsts s) name ≡ position (is_sort s name) sorts

-- the types are all of interfaces with numbers below this one
abbrev pub AreBelow : ℕ → List Sort → Type 0
AreBelow s sorts = AllByRecursion (λ (sort : Sort). sort.interface < s) sorts
