-- Step. The index of the table of types. Where the types that are declared stand: an index of a
-- table of names.
use Rattle.std.specs.Prelude.{◌≡◌, ℕ, suc, List, [], ◌∷◌, Option, Some, None, option_map}
use Rattle.std.specs.Prelude.{if◌then◌else◌}
use Rattle.std.specs.Ordering.{nat_cmp}
use Rattle.std.specs.Str.{bytes_eq}
use Rattle.std.specs.BTreeMap.{BTreeMap, get_by}
use Rattle.std.specs.Cmp.Lexicographic.{slice_cmp}
use denote.Ref.{Bor}

-- the place of the first entry of this name
unfoldable pub place_of : {X : Type 0} → List (List ℕ × X) → List ℕ → Option ℕ
place_of [] name = None
place_of (entry ∷ others) name =
    if bytes_eq name entry.0 then Some 0 else option_map suc (place_of others name)

-- the index has the place of each name
abbrev pub HasPlaces : {X : Type 0} → List (List ℕ × X) → BTreeMap (Bor (List ℕ)) ℕ → Type 0
HasPlaces entries index =
    (name : List ℕ) → get_by (λ k. slice_cmp nat_cmp name k.now) index ≡ place_of entries name
