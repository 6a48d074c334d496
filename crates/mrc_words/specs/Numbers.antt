-- Believe. Which number a word is. This profile's own choice.
use Rattle.std.specs.Prelude.{ℕ, ◌^◌, ◌&&◌, nat_lt, nat_le, List, [], ◌∷◌, Option, Some, None}
use Rattle.std.specs.Prelude.{if◌then◌else◌, ℤ, pos, neg_ℤ, ◌==◌}
use Rattle.mrc_wiring_text.specs.Lexis.{decimal}
use Rattle.mrc_wiring_text.specs.Kinds.{is_number}

-- the number that decimal digits spell, leading zeros or not, where it has 32 bits
unfoldable pub number_of_word : List ℕ → Option ℕ
number_of_word word =
    if is_number word && nat_lt (decimal word) (2 ^ 32) then Some (decimal word) else None

-- the number that digits spell, where it is at most 2147483647
unfoldable pub delta_above : List ℕ → Option ℤ
delta_above digits =
    if is_number digits && nat_lt (decimal digits) (2 ^ 31)
    then Some (pos (decimal digits)) else None

-- the number whose negative digits spell, where it is at least -2147483648
unfoldable pub delta_below : List ℕ → Option ℤ
delta_below digits =
    if is_number digits && nat_le (decimal digits) (2 ^ 31) then Some (neg_ℤ (pos (decimal digits)))
    else None

-- the number from -2147483648 to 2147483647 that a word spells: decimal digits, leading zeros or
-- not, after `-` where it is below 0
unfoldable pub delta_of_word : List ℕ → Option ℤ
delta_of_word [] = None
delta_of_word (byte ∷ digits) =
    if byte == 45 then delta_below digits else delta_above (byte ∷ digits)
