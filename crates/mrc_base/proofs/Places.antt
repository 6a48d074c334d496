-- Facts of the element at each place of a list that grows at its end, or is taken from the front.
use Rattle.std.proofs.Common.{◌≡◌, ◌+◌, ℕ, zero, suc, List, [], ◌∷◌, ◌++◌, Some}
use Rattle.std.proofs.Common.{length, slice_get, sym, ap, ◌∙◌, subst, arith}

-- the one element of a list
only_there : {X : Type 0} (P : ℕ → X → Type 0) (x : X) → P 0 x
    → (k : ℕ) (y : X) → slice_get (x ∷ []) k ≡ Some y → P k y
only_there P x holds zero y at = subst (P 0) (let e : x ≡ y = cc in e) holds
only_there P x holds (suc k) y at = absurd cc

-- one element more at the end
pub each_pushed : {X : Type 0} (P : ℕ → X → Type 0) (xs : List X) (x : X)
    → ((k : ℕ) (y : X) → slice_get xs k ≡ Some y → P k y) → P (length xs) x
    → (k : ℕ) (y : X) → slice_get (xs ++ x ∷ []) k ≡ Some y → P k y
each_pushed P [] x each holds k y at = only_there P x holds k y at
each_pushed P (z ∷ xs) x each holds zero y at = each zero y at
each_pushed P (z ∷ xs) x each holds (suc k) y at =
    each_pushed (λ j. P (suc j)) xs x (λ j w. each (suc j) w) holds k y at

-- the same, where the list and its length have names of their own
pub each_grown : {X : Type 0} (P : ℕ → X → Type 0) (xs zs : List X) (x : X) (n : ℕ)
    → zs ≡ xs ++ x ∷ [] → n ≡ length xs
    → ((k : ℕ) (y : X) → slice_get xs k ≡ Some y → P k y) → P n x
    → (k : ℕ) (y : X) → slice_get zs k ≡ Some y → P k y
each_grown P xs zs x n longer len each holds k y at =
    each_pushed P xs x each (subst (λ m. P m x) len holds) k y
    (ap (λ ws. slice_get ws k) (sym longer) ∙ at)

-- the first element, and those behind it, where places are counted from n
pub each_first : {X : Type 0} (P : ℕ → X → Type 0) (n : ℕ) (x : X) (xs ys : List X)
    → xs ≡ x ∷ ys → ((k : ℕ) (y : X) → slice_get xs k ≡ Some y → P (n + k) y) → P n x
each_first P n x xs ys is each =
    let same : n + 0 ≡ n = omega arith in
    subst (λ m. P m x) same (each zero x (ap (λ ws. slice_get ws 0) is))

pub each_later : {X : Type 0} (P : ℕ → X → Type 0) (n m : ℕ) (x : X) (xs ys : List X)
    → xs ≡ x ∷ ys → ((k : ℕ) (y : X) → slice_get xs k ≡ Some y → P (n + k) y) → m ≡ n + 1
    → (k : ℕ) (y : X) → slice_get ys k ≡ Some y → P (m + k) y
each_later P n m x xs ys is each next k y at =
    let same : n + suc k ≡ m + k = omega (arith, next) in
    subst (λ j. P j y) same (each (suc k) y (ap (λ ws. slice_get ws (suc k)) is ∙ at))
