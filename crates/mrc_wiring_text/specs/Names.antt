-- Believe. What a name is. The grammar of names is this profile's own choice.
use Rattle.std.specs.Prelude.{ℕ, Bool, false, Option, Some, None, if◌then◌else◌, ◌==◌, ◌||◌, ◌&&◌}
use Rattle.std.specs.Prelude.{nat_lt, List, [], ◌∷◌, length}
use Rattle.std.specs.List.{list_all}
use Rattle.mrc_base.specs.Limits.{limit_of_name}
use Rattle.std.specs.Char.{is_ascii_alphabetic, is_ascii_alphanumeric}

-- a letter or `_`
abbrev pub is_letter : ℕ → Bool
is_letter b = is_ascii_alphabetic b || b == 95

-- a letter, a digit or `_`
abbrev pub is_name_byte : ℕ → Bool
is_name_byte b = is_ascii_alphanumeric b || b == 95

-- a letter or `_`, then letters, digits and `_`, no more bytes than a name may have
unfoldable pub is_name : List ℕ → Bool
is_name [] = false
is_name (b ∷ bs) = is_letter b && nat_lt (length bs) limit_of_name && list_all is_name_byte bs

-- the name that a word spells
abbrev pub name_of : List ℕ → Option (List ℕ)
name_of word = if is_name word then Some word else None
