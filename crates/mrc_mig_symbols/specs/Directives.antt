-- Believe. Which lines of the preprocessor a file may keep. Lines of the preprocessor: this
-- profile's own choice of those that a MIG file may keep.
use Rattle.std.specs.Prelude.{ℕ, List, [], ◌∷◌, length, take, drop, Bool, true, false, ◌||◌, Option}
use Rattle.std.specs.Prelude.{Some, None, codes, ◌==◌, if◌then◌else◌}
use Rattle.std.specs.Char.{is_ascii_digit}
use Rattle.std.specs.Str.{bytes_eq}
use Rattle.mrc_mig_symbols.specs.declared.directive.Directive.{Directive}
use Rattle.mrc_mig_symbols.specs.declared.directive.Directive.TheVariants.{Include, Marker, Other}
use Rattle.mrc_mig_symbols.specs.declared.directive.Place.{Place}
use Rattle.mrc_mig_symbols.specs.declared.directive.Place.TheVariants.{Outside, Opening, Inside}
use Rattle.mrc_mig_symbols.specs.declared.directive.Place.TheVariants.{Closing}

-- a space or a tab
abbrev pub is_blank : ℕ → Bool
is_blank b = b == 32 || b == 9

-- a space, a tab or a carriage return
abbrev pub is_space : ℕ → Bool
is_space b = b == 32 || b == 9 || b == 13

-- what follows spaces and tabs
unfoldable pub without_blanks : List ℕ → List ℕ
without_blanks [] = []
without_blanks (b ∷ line) = if is_blank b then without_blanks line else b ∷ line

-- what follows the digits
unfoldable pub without_digits : List ℕ → List ℕ
without_digits [] = []
without_digits (b ∷ line) = if is_ascii_digit b then without_digits line else b ∷ line

-- what follows these bytes
unfoldable pub after_bytes : List ℕ → List ℕ → Option (List ℕ)
after_bytes bytes line =
    if bytes_eq (take (length bytes) line) bytes then Some (drop (length bytes) line) else None

-- what follows the digits, of which there is one at least
unfoldable pub after_digits : List ℕ → Option (List ℕ)
after_digits [] = None
after_digits (b ∷ line) = if is_ascii_digit b then Some (without_digits line) else None

-- one byte further, where only spaces, tabs, carriage returns and comments may stand
abbrev pub next_place : Place → ℕ → Option Place
next_place Outside b = if is_space b then Some Outside else if b == 47 then Some Opening else None
next_place Opening b = if b == 42 then Some Inside else None
next_place Inside b = if b == 42 then Some Closing else Some Inside
next_place Closing b =
    if b == 47 then Some Outside else if b == 42 then Some Closing else Some Inside

-- from this place on, only spaces, tabs, carriage returns and whole comments are left
unfoldable pub is_empty_from : Option Place → List ℕ → Bool
is_empty_from None line = false
is_empty_from (Some Outside) [] = true
is_empty_from (Some Opening) [] = false
is_empty_from (Some Inside) [] = false
is_empty_from (Some Closing) [] = false
is_empty_from (Some place) (b ∷ line) = is_empty_from (next_place place b) line

-- an include, with this behind `<mach/std_types.defs>`: spaces, tabs, carriage returns and whole
-- comments alone
abbrev pub included : Option (List ℕ) → Directive
included None = Other
included (Some after) = if is_empty_from (Some Outside) after then Include else Other

-- a marker, with this behind its number or `line`: nothing, or a space, tab or carriage return and
-- then anything
abbrev pub marked : Option (List ℕ) → Directive
marked None = Other
marked (Some []) = Marker
marked (Some (b ∷ after)) = if is_space b then Marker else Other

-- a marker's number, or the word that may stand for one
abbrev pub marker_of : List ℕ → Option (List ℕ) → Directive
marker_of line None = marked (after_digits line)
marker_of line (Some after) = marked (Some after)

-- what a line is, by what follows the `#` and spaces
abbrev pub line_of : List ℕ → Option (List ℕ) → Directive
line_of line None = marker_of line (after_bytes (codes "line") line)
line_of line (Some after) =
    included (after_bytes (codes "<mach/std_types.defs>") (without_blanks after))

-- what a line that begins with `#` is
abbrev pub hash_line : Option (List ℕ) → Directive
hash_line None = Other
hash_line (Some line) =
    line_of (without_blanks line) (after_bytes (codes "include") (without_blanks line))

-- what a line is
unfoldable pub directive_of : List ℕ → Directive
directive_of line = hash_line (after_bytes (codes "#") line)
