-- Believe. Which line of a text a spot is in. This profile's own choice.
use Rattle.std.specs.Prelude.{ℕ, ◌≡◌, ◌+◌, ◌-◌, ◌<◌, ◌≤◌, ◌==◌, Bool, List, [], ◌++◌}
use Rattle.std.specs.Prelude.{length, min, count_by, slice_get, slice_index_or, string_bytes}
use Rattle.std.specs.Prelude.{IfSome, Some}
use Rattle.mrc_wiring_text.specs.Lexis.{lines}
use Rattle.mrc_place.specs.declared.spots.Spot.{Spot}
use Rattle.mrc_place.specs.declared.hints.Hint.{Hint}

-- a line feed
abbrev pub is_feed : ℕ → Bool
is_feed b = b == 10

-- the number of the line that begins behind a part of a text, as far as 32 bits count
abbrev pub line_after : List ℕ → ℕ
line_after front = min (1 + count_by is_feed front) 4294967295

-- the text has this line of this number, from 1
abbrev pub HasLine : List ℕ → ℕ → List ℕ → Type 0
HasLine text number line = (0 < number) × (slice_get (lines text) (number - 1) ≡ Some line)

-- the line of this number, from 1: behind the last line there is an empty one
abbrev pub line_numbered : List ℕ → ℕ → List ℕ
line_numbered text number = slice_index_or (lines text) (number - 1) []

-- The spot is inside its line: what is before it, its part and what is behind it are the line of
-- its number, which is given as far as 32 bits count.
pub record IsInside (text : List ℕ) (spot : Spot) : Type 0 where
  pub number : ℕ
  pub counted : spot.line ≡ min number 4294967295
  pub first : 0 < number
  pub within : number ≤ length (lines text) + 1
  pub parts :
      string_bytes spot.before ++ (string_bytes spot.word ++ string_bytes spot.after)
      ≡ line_numbered text number

-- the caret of a hint, if it has one, is inside its line
abbrev pub HasCaretInside : List ℕ → Hint → Type 0
HasCaretInside text hint = IfSome hint.spot (IsInside text)
