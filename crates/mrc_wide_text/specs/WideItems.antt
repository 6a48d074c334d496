-- Believe. What a line of version 4 says that a class accepts. This profile's own choice.
use Rattle.std.specs.Prelude.{ℕ, Bool, ◌||◌, bytes_eq, codes, List, [], ◌∷◌, Option, Some}
use Rattle.std.specs.Prelude.{if◌then◌else◌}
use Rattle.std.specs.List.{slice_split}
use Rattle.mrc_wiring_text.specs.declared.items.Item.{Item}
use Rattle.mrc_wiring_text.specs.Lexis.{is_comma}
use Rattle.mrc_wiring_text.specs.Items.{item_of, all_of}
use Rattle.mrc_wide_text.specs.WideWords.{is_alone}

-- a word with which an item begins
unfoldable pub is_item_word : List ℕ → Bool
is_item_word word =
    bytes_eq word (codes "request") || (bytes_eq word (codes "reply")
    || bytes_eq word (codes "destroyed"))

-- the words of a part behind one that begins with key: J, which is no such word, is `key J`
unfoldable pub keyed : List ℕ → List (List ℕ) → List (List ℕ)
keyed key (word ∷ []) = if is_item_word word then word ∷ [] else key ∷ word ∷ []
keyed key words = words

-- the first of the words, or the empty word
abbrev pub first_word : List (List ℕ) → List ℕ
first_word [] = []
first_word (word ∷ words) = word

-- the words of each part, so that `request I, J` is `request I, request J`
abbrev pub with_keys : List ℕ → List (List (List ℕ)) → List (List (List ℕ))
with_keys key [] = []
with_keys key (part ∷ parts) =
    keyed key part ∷ with_keys (first_word (keyed key part)) parts

-- ITEMS: `none`, or what stands between commas is an item each
unfoldable pub items_of : List (List ℕ) → Option (List Item)
items_of words =
    if is_alone (codes "none") words then Some []
    else all_of item_of (with_keys [] (slice_split is_comma words))
