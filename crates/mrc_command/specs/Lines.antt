-- Believe. The lines of faults. This profile's own choice.
use Rattle.std.specs.Prelude.{◌≡◌, ℕ, ◌/◌, ◌%◌, ◌==◌, List, [], ◌∷◌, ◌++◌, codes, if◌then◌else◌}
use Rattle.std.specs.Prelude.{false, chars, encode_utf8_all, flat_map, IsUtf8, All}
use Rattle.std.specs.Char.{digit_char, is_control}

-- the two digits of a number below 256 to the base 16
abbrev pub hex_digits : ℕ → List ℕ
hex_digits n = digit_char (n / 16) ∷ digit_char (n % 16) ∷ []

-- A character of a name as it is shown: a line feed, a tab, a carriage return and any other control
-- character (0 to 31 and 127 to 159) by an escape, since such a character could split a line, or
-- colour or erase what is on it. A backslash is doubled, so that an escape is never what a name
-- has itself. All others are unchanged.
abbrev pub shown_char : ℕ → List ℕ
shown_char c =
    if c == 92 then codes "\\\\"
    else if c == 10 then codes "\\n"
    else if c == 9 then codes "\\t"
    else if c == 13 then codes "\\r"
    else if is_control c then codes "\\x" ++ hex_digits c
    else c ∷ []

-- the bytes of characters as they are shown
abbrev pub shown_bytes : List ℕ → List ℕ
shown_bytes cs = encode_utf8_all (flat_map shown_char cs)

-- a name as it is shown
abbrev pub shown : List ℕ → List ℕ
shown name = shown_bytes (chars name)

-- the line for out of memory
abbrev pub memory_line : List ℕ
memory_line = codes "machcheck: Memory\n"

-- the line of a fault of a file
abbrev pub fault_line : List ℕ → List ℕ → List ℕ
fault_line file fault = codes "machcheck: " ++ (shown file ++ (codes ": " ++ (fault ++ codes "\n")))

-- two names are never shown alike
abbrev pub NamesAreToldApart : Type 0
NamesAreToldApart =
    (one other : List ℕ) → IsUtf8 one → IsUtf8 other → shown one ≡ shown other → one ≡ other

-- no name is shown with a control character
abbrev pub NamesAreShownPlain : Type 0
NamesAreShownPlain =
    (name : List ℕ) → All (λ c. is_control c ≡ false) (flat_map shown_char (chars name))
