-- Believe. What a line says that a class accepts. The grammar is this profile's own choice.
use Rattle.std.specs.Prelude.{ℕ, Bool, false, bytes_eq, codes, List, [], ◌∷◌, Option, Some, None}
use Rattle.std.specs.Prelude.{if◌then◌else◌}
use Rattle.std.specs.List.{slice_split}
use Rattle.std.specs.Option.{option_map}
use Rattle.mrc_wiring_text.specs.declared.items.Item.{Item}
use Rattle.mrc_wiring_text.specs.declared.items.Item.TheVariants.{Request, Reply, Destroyed}
use Rattle.mrc_wiring_text.specs.Lexis.{is_comma}
use Rattle.mrc_wiring_text.specs.Names.{name_of}

-- the item that a word and a name say: `request S` or `reply S`
unfoldable pub table_item : List ℕ → List ℕ → Option Item
table_item key subsystem =
    if bytes_eq key (codes "request") then option_map Request (name_of subsystem)
    else (if bytes_eq key (codes "reply") then option_map Reply (name_of subsystem) else None)

-- the item that words say: `request S`, `reply S` or `destroyed`
unfoldable pub item_of : List (List ℕ) → Option Item
item_of (key ∷ []) = if bytes_eq key (codes "destroyed") then Some Destroyed else None
item_of (key ∷ subsystem ∷ []) = table_item key subsystem
item_of words = None

-- one value before others, where there are all
abbrev pub first_of_all : {X : Type 0} → Option X → Option (List X) → Option (List X)
first_of_all (Some x) (Some others) = Some (x ∷ others)
first_of_all _ _ = None

-- the value of each element, where each has one
abbrev pub all_of : {X Y : Type 0} → (X → Option Y) → List X → Option (List Y)
all_of f [] = Some []
all_of f (x ∷ xs) = first_of_all (f x) (all_of f xs)

-- whether words are `none` alone
abbrev pub is_none : List (List ℕ) → Bool
is_none (word ∷ []) = bytes_eq word (codes "none")
is_none words = false

-- the items that words say: none, or what stands between commas is an item each
unfoldable pub items_of : List (List ℕ) → Option (List Item)
items_of words = if is_none words then Some [] else all_of item_of (slice_split is_comma words)
