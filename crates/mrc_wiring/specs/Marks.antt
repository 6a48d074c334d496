-- Step. Rows of bits, made of lines that each name a row and mark a place in it, or none. An admit
-- line is such a line: its type is the row, and its class is the place. This profile's own choice.
use Rattle.std.specs.Prelude.{◌≡◌, ℕ, ◌++◌, ◌⊎◌, Bool, false, ◌==◌, ◌&&◌, nat_lt}
use Rattle.std.specs.Prelude.{List, [], ◌∷◌, length, Vec, Option, option_map, slice_get, unwrap_or}
use Rattle.std.specs.Prelude.{if◌then◌else◌}
use Rattle.std.specs.List.{list_any}
use Rattle.std.specs.declared.alloc.Global.{Global}
use Rattle.mrc_bits.specs.Bits.{is_set}
use Rattle.mrc_model.specs.Wiring.{is_line_of, admits_by}

-- the words of row k; none if there is no such row
abbrev pub words_at : List (Vec ℕ Global) → ℕ → List ℕ
words_at rows k = unwrap_or (option_map (λ (row : Vec ℕ Global). row.items) (slice_get rows k)) []

-- the place that a line marks, if it marks one, is p
abbrev pub is_marked : ℕ → Option ℕ → Bool
is_marked p place = unwrap_or (option_map (λ (q : ℕ). q == p) place) false

-- Each row that a line names has this many words (the width), and the others have none. The bits of
-- a row are the places that its lines mark, and no other; a place is below the number of places.
pub record AreMarked
    (width places : ℕ)
    (lines : List (ℕ × Option ℕ))
    (rows : List (Vec ℕ Global))
    : Type 0 where
  pub wide : (k : ℕ)
      → length (words_at rows k) ≡ (if list_any (is_line_of k) lines then width else 0)
  pub bits : (k p : ℕ)
      → is_set (words_at rows k) p ≡ (nat_lt p places && list_any (admits_by k p) lines)

-- a row has this many words, or none
abbrev pub IsWide : ℕ → List ℕ → Type 0
IsWide width row = (length row ≡ 0) ⊎ (length row ≡ width)

-- so has each row
abbrev pub AreWide : ℕ → List (Vec ℕ Global) → Type 0
AreWide width rows = (k : ℕ) → IsWide width (words_at rows k)

-- the rows of some lines have become those of the lines and one more
abbrev pub MarksMore : ℕ → ℕ → List (Vec ℕ Global) → ℕ × Option ℕ → List (Vec ℕ Global) → Type 0
MarksMore width places old line new =
    (lines : List (ℕ × Option ℕ)) → AreMarked width places lines old
    → AreMarked width places (lines ++ line ∷ []) new
