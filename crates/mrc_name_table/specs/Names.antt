-- Believe. The numbers of names, and names with one more. This profile's own choice.
use Rattle.std.specs.Prelude.{ℕ, List, [], ◌∷◌, ◌++◌, Option, bytes_eq, is_some, position}
use Rattle.std.specs.Prelude.{if◌then◌else◌}

-- the number of a name is its place
abbrev pub number_of : List (List ℕ) → List ℕ → Option ℕ
number_of names name = position (bytes_eq name) names

-- the names, and this one behind them unless it is one of them
abbrev pub with_name : List (List ℕ) → List ℕ → List (List ℕ)
with_name names name = if is_some (number_of names name) then names else names ++ name ∷ []
