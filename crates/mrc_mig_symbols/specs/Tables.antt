-- Believe. How tables of names are searched. This profile's own choice.
use Rattle.std.specs.Prelude.{◌≡◌, ℕ, List, [], ◌∷◌, Option, Some, None, map, if◌then◌else◌}
use Rattle.std.specs.Str.{bytes_eq, str_to_ascii_lowercase}
use denote.Ref.{Bor}

-- a table without where its names lie in memory
abbrev pub plain : {X : Type 0} → List (Bor (List ℕ) × X) → List (List ℕ × X)
plain table = map (λ entry. (entry.0.now, entry.1)) table

-- each name is in lower case
abbrev pub AreLowercase : {X : Type 0} → List (Bor (List ℕ) × X) → Type 0
AreLowercase [] = Unit {0}
AreLowercase (entry ∷ others) =
    (str_to_ascii_lowercase entry.0.now ≡ entry.0.now) × AreLowercase others

-- what a table has under these bytes
unfoldable pub entry_of : {X : Type 0} → List (List ℕ × X) → List ℕ → Option X
entry_of [] bytes = None
entry_of (entry ∷ others) bytes =
    if bytes_eq bytes entry.0 then Some entry.1 else entry_of others bytes
