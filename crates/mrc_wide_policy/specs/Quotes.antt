-- Believe. The words of a line with strings. A `"` begins a string, and the next one ends it: in it
-- a blank, a comma and a `#` are characters. This profile's own choice.
use Rattle.std.specs.Prelude.{ℕ, ◌-◌, Bool, false, ◌==◌, ◌&&◌, ◌||◌, not, nat_le, nat_lt, List, []}
use Rattle.std.specs.Prelude.{◌∷◌, ◌++◌, length, take, drop, Option, Some, None, if◌then◌else◌}
use Rattle.std.specs.List.{list_any, slice_split, slice_index}
use Rattle.std.specs.Str.{is_utf8}
use Rattle.mrc_wiring_text.specs.Lexis.{is_hash, words}

-- a `"`
abbrev pub is_quote : ℕ → Bool
is_quote b = b == 34

-- ---- words

-- a string as a word: it has its quotes, of which the second is missing where the line ends first
abbrev pub string_word : List ℕ → List (List ℕ) → List ℕ
string_word string [] = 34 ∷ string
string_word string (text ∷ behind) = 34 ∷ string ++ 34 ∷ []

-- the words of what stands outside of strings and of what stands inside, by turns, up to a comment
unfoldable pub by_turns : List (List ℕ) → List (List ℕ)
by_turns [] = []
by_turns (text ∷ []) = words text
by_turns (text ∷ string ∷ behind) =
    if list_any is_hash text then words text
    else words text ++ string_word string behind ∷ by_turns behind

-- the words of a line: each string is one by itself
unfoldable pub quoted_words : List ℕ → List (List ℕ)
quoted_words line = by_turns (slice_split is_quote line)

-- ---- strings

-- bytes of a string, at most
abbrev pub limit_of_string : ℕ
limit_of_string = 128

-- a control character ends with this byte behind that one: U+0000 to U+001F and U+007F are one
-- byte, U+0080 to U+009F are 194 and a byte below 160
abbrev pub ends_control : ℕ → ℕ → Bool
ends_control before b = nat_lt b 32 || (b == 127 || (before == 194 && nat_lt b 160))

-- a control character is in the bytes behind that one
abbrev pub has_control : ℕ → List ℕ → Bool
has_control before [] = false
has_control before (b ∷ bytes) = ends_control before b || has_control b bytes

-- what can stand in a string: one byte at least, and no control character
unfoldable pub is_string : List ℕ → Bool
is_string text =
    nat_le 1 (length text) && (nat_le (length text) limit_of_string && not (has_control 0 text))

-- what stands between the first byte of a word and its last
abbrev pub inside : List ℕ → List ℕ
inside word = take (length word - 2) (drop 1 word)

-- a word begins with one `"` and ends with another
unfoldable pub is_in_quotes : List ℕ → Bool
is_in_quotes word =
    nat_le 2 (length word) && (is_quote (slice_index word 0)
    && is_quote (slice_index word (length word - 1)))

-- what a word says that is a string
unfoldable pub quoted_of : List ℕ → Option (List ℕ)
quoted_of word =
    if is_in_quotes word && is_string (inside word) then Some (inside word) else None

-- bytes that are a text
abbrev pub as_text : List ℕ → Option (List ℕ)
as_text bytes = if is_utf8 bytes then Some bytes else None
