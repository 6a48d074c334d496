-- Believe. Lines and words. This grammar is this profile's own choice.
use Rattle.std.specs.Prelude.{ℕ, ◌+◌, ◌-◌, ◌*◌, Bool, ◌==◌, ◌||◌, not, List, [], ◌∷◌, length}
use Rattle.std.specs.Prelude.{filter, fold, if◌then◌else◌, bytes_eq, codes}
use Rattle.std.specs.List.{onto_first, slice_split, before_first, flat_map}

-- the lines of a text: a line feed ends one, and the last may lack it
abbrev pub lines : List ℕ → List (List ℕ)
lines [] = []
lines (b ∷ bs) = if b == 10 then [] ∷ lines bs else onto_first b (lines bs)

-- a space, a tab or a carriage return
unfoldable pub is_blank : ℕ → Bool
is_blank b = b == 32 || b == 9 || b == 13

-- a `#` begins a comment
abbrev pub is_hash : ℕ → Bool
is_hash b = b == 35

-- a byte, which has a space on each side if it is a comma
abbrev pub spaced_byte : ℕ → List ℕ
spaced_byte b = if b == 44 then 32 ∷ 44 ∷ 32 ∷ [] else b ∷ []

-- bytes with a space on each side of each comma
abbrev pub spaced : List ℕ → List ℕ
spaced bytes = flat_map spaced_byte bytes

-- whether a word has any byte
abbrev pub is_filled : List ℕ → Bool
is_filled word = not (length word == 0)

-- what stands between blanks
unfoldable pub between_blanks : List ℕ → List (List ℕ)
between_blanks bytes = filter is_filled (slice_split is_blank bytes)

-- the words of a line: what stands between blanks, up to the comment. A comma is a word by itself,
-- with blanks around it or without.
unfoldable pub words : List ℕ → List (List ℕ)
words line = between_blanks (spaced (before_first is_hash line))

-- a `.` parts the two names of a slot's type
abbrev pub is_dot : ℕ → Bool
is_dot b = b == 46

-- whether a word is a comma
abbrev pub is_comma : List ℕ → Bool
is_comma word = bytes_eq word (codes ",")

-- the number that decimal digits spell, leading zeros or not
abbrev pub decimal : List ℕ → ℕ
decimal digits = fold (λ n d. n * 10 + (d - 48)) 0 digits
