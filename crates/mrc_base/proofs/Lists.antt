-- Facts of lists and options that more than one crate needs.
use Rattle.std.proofs.Common.{◌≡◌, ◌<◌, ℕ, zero, suc, Bool, true, false, List, [], ◌∷◌, ◌++◌, Option}
use Rattle.std.proofs.Common.{Some, None, length, map, slice_get, refl, ap, ◌∙◌, arith, ◌||◌}
use Rattle.std.proofs.Common.{if◌then◌else◌}
use Rattle.std.specs.List.{list_any, filter}
use Rattle.std.specs.Prelude.{option_map, option_and_then}
use Rattle.std.proofs.lemmas.List.Elements.{filter-append}
use Rattle.std.proofs.lemmas.List.{append-nil}

-- a test of what is made of the elements
pub any_map : {X Y : Type 0} (test : Y → Bool) (f : X → Y) (xs : List X)
    → list_any test (map f xs) ≡ list_any (λ x. test (f x)) xs
any_map test f [] = refl
any_map test f (x ∷ xs) = ap (λ b. test (f x) || b) (any_map test f xs)

-- one element more, which passes the test of a filter, or does not
pub filter_push : {X : Type 0} (test : X → Bool) (xs : List X) (x : X)
    → test x ≡ true → filter test (xs ++ x ∷ []) ≡ filter test xs ++ x ∷ []
filter_push test xs x passes =
    filter-append test xs (x ∷ [])
    ∙ ap (λ b. filter test xs ++ (if b then x ∷ [] else [])) passes

pub filter_skip : {X : Type 0} (test : X → Bool) (xs : List X) (x : X)
    → test x ≡ false → filter test (xs ++ x ∷ []) ≡ filter test xs
filter_skip test xs x fails =
    filter-append test xs (x ∷ [])
    ∙ (ap (λ b. filter test xs ++ (if b then x ∷ [] else [])) fails ∙ append-nil (filter test xs))

-- the first element behind a front
pub at_seam : {X : Type 0} (front : List X) (x : X) (after : List X)
    → slice_get (front ++ x ∷ after) (length front) ≡ Some x
at_seam [] x after = refl
at_seam (y ∷ front) x after = at_seam front x after

-- there is an element at each place
pub element_there : {X : Type 0} (xs : List X) (i : ℕ) → i < length xs
    → (x : X) × (slice_get xs i ≡ Some x)
element_there [] i less = absurd (omega arith)
element_there (x ∷ xs) zero less = (x, refl)
element_there (x ∷ xs) (suc i) less = element_there xs i (omega arith)

-- a result of two steps has a value that lies between them
pub map_is : {X Y : Type 0} (f : X → Y) (o : Option X) (y : Y) → option_map f o ≡ Some y
    → (x : X) × (o ≡ Some x) × (f x ≡ y)
map_is f None y e = absurd cc
map_is f (Some x) y e = (x, refl, cc)

pub then_is : {X Y : Type 0} (f : X → Option Y) (o : Option X) (y : Y)
    → option_and_then f o ≡ Some y → (x : X) × (o ≡ Some x) × (f x ≡ Some y)
then_is f None y e = absurd cc
then_is f (Some x) y e = (x, refl, e)
