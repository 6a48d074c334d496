-- Believe. The kinds of births, and their words. This profile's own choice.
use Rattle.std.specs.Prelude.{ℕ, Bool, ◌==◌, ◌&&◌, not, nat_lt, List, length, Option, Some, None}
use Rattle.std.specs.Prelude.{if◌then◌else◌}
use Rattle.std.specs.Char.{is_ascii_digit}
use Rattle.std.specs.List.{list_all}
use Rattle.mrc_base.specs.Limits.{limit_of_kinds}
use Rattle.mrc_wiring_text.specs.Lexis.{decimal}

-- decimal digits, at least one
abbrev pub is_number : List ℕ → Bool
is_number word = not (length word == 0) && list_all is_ascii_digit word

-- the kind of this number, if there is one
abbrev pub kind_numbered : ℕ → Option ℕ
kind_numbered number = if nat_lt number limit_of_kinds then Some number else None

-- the kind of births that a word spells, leading zeros or not
unfoldable pub kind_of : List ℕ → Option ℕ
kind_of word = if is_number word then kind_numbered (decimal word) else None
