-- A text that is empty has empty parts.
use Rattle.std.proofs.Common.{◌≡◌, ◌++◌, ◌∷◌, ℕ, List, [], refl}

-- the first part of one
pub first_empty : (a b : List ℕ) → a ++ b ≡ [] → a ≡ []
first_empty [] b e = refl
first_empty (x ∷ a) b e = absurd cc

-- the rest of one
pub rest_empty : (a b : List ℕ) → a ++ b ≡ [] → b ≡ []
rest_empty [] b e = e
rest_empty (x ∷ a) b e = absurd cc
