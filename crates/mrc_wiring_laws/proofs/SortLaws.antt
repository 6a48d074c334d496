-- The numbers of types: first places in a list.
use Rattle.std.proofs.Common.{◌≡◌, ℕ, zero, suc, ◌<◌, Bool, true, false, List, [], ◌∷◌}
use Rattle.std.proofs.Common.{length, Option, Some, None, refl, ap, sym, subst, ◌∙◌, arith, get_or}
use Rattle.std.proofs.Common.{◌==◌, if◌then◌else◌}
use Rattle.std.specs.Prelude.{bytes_eq, position, unwrap_or}
use Rattle.std.specs.List.{position_or_len}
use Rattle.std.proofs.lemmas.Bool.{lt-ltb, eqb-true, eq-eqb, and_parts, and_from}
use Rattle.std.proofs.lemmas.Slice.Eq.{bytes_eq-Decides}
use Rattle.std.proofs.lemmas.List.Quantifiers.{position-Some}
use Rattle.mrc_model.specs.IsIn.{IsIn, here, later}
use Rattle.mrc_wiring.specs.Sorts.{Sort, is_sort, sort_number, SortsAreTypes, SortsAreNumbered}

abbrev sort_of : ℕ → List ℕ → Sort
sort_of s name = record { interface = s; type_name = name }

-- the test is that of equality
is_sort_is : (s : ℕ) (name : List ℕ) (sort : Sort)
    → is_sort s name sort ≡ true
    → sort_of s name ≡ sort
is_sort_is s name sort e =
    let parts = and_parts (sort.interface == s) (bytes_eq name sort.type_name) e in
    let number : sort.interface ≡ s = eqb-true sort.interface s parts.0 in
    let text : name ≡ sort.type_name = (bytes_eq-Decides name sort.type_name).0 parts.1 in
    ap (λ n. sort_of n name) (sym number) ∙ ap (λ t. sort_of sort.interface t) text

is_own_sort : (s : ℕ) (name : List ℕ) → is_sort s name (sort_of s name) ≡ true
is_own_sort s name =
    and_from (s == s) (bytes_eq name name) (eq-eqb s s refl) ((bytes_eq-Decides name name).1 refl)

-- what passes a test has a first place
place_of : (p : Sort → Bool) (x : Sort) (xs : List Sort)
    → p x ≡ true
    → IsIn x xs
    → position_or_len p xs < length xs
place_of p x [] e at = elim at [ ]
place_of p x (y ∷ ys) e here = rw e omega arith
place_of p x (y ∷ ys) e (later at) =
    elim (p y) as (λ b. p y ≡ b → position_or_len p (y ∷ ys) < length (y ∷ ys)) [
      | true ↦ λ is. rw is omega arith
      | false ↦ λ is. let rest = place_of p x ys e at in rw is omega arith
    ] refl

place_is : (p : Sort → Bool) (x : Sort) (xs : List Sort)
    → p x ≡ true
    → IsIn x xs
    → position p xs ≡ Some (position_or_len p xs)
place_is p x xs e at =
    ap (λ b. if b then Some (position_or_len p xs) else None)
    (lt-ltb (position_or_len p xs) (length xs) (place_of p x xs e at))

in_at : (xs : List Sort) (i : ℕ) (d : Sort) → i < length xs → IsIn (get_or xs i d) xs
in_at [] i d less = absurd (omega arith)
in_at (x ∷ xs) zero d less = here
in_at (x ∷ xs) (suc i) d less = later (in_at xs i d (omega arith))

-- the number of a type that is there
number_there : (sorts : List Sort) (s : ℕ) (name : List ℕ)
    → IsIn (sort_of s name) sorts
    → sort_number sorts s name ≡ position_or_len (is_sort s name) sorts
number_there sorts s name at =
    ap (λ o. unwrap_or o (length sorts))
    (place_is (is_sort s name) (sort_of s name) sorts (is_own_sort s name) at)

-- and what stands at that place
at_number : (sorts : List Sort) (s : ℕ) (name : List ℕ)
    → IsIn (sort_of s name) sorts
    → sort_of s name ≡ get_or sorts (sort_number sorts s name) (sort_of 0 [])
at_number sorts s name at =
    let found = position-Some (is_sort s name) sorts (position_or_len (is_sort s name) sorts)
    (sort_of 0 []) (place_is (is_sort s name) (sort_of s name) sorts (is_own_sort s name) at) in
    is_sort_is s name _ found.1
    ∙ ap (λ i. get_or sorts i (sort_of 0 [])) (sym (number_there sorts s name at))

pub sorts_types : SortsAreTypes
sorts_types sorts s t name other one two = (there, back)
  where
    there : sort_number sorts s name ≡ sort_number sorts t other → (s ≡ t) × (name ≡ other)
    there e =
        let same : sort_of s name ≡ sort_of t other = at_number sorts s name one
        ∙ ap (λ i. get_or sorts i (sort_of 0 [])) e ∙ sym (at_number sorts t other two) in
        (ap (λ (x : Sort). x.interface) same, ap (λ (x : Sort). x.type_name) same)

    back : (s ≡ t) × (name ≡ other) → sort_number sorts s name ≡ sort_number sorts t other
    back e = ap (λ n. sort_number sorts n name) e.0 ∙ ap (sort_number sorts t) e.1

-- a number below the length is found
below : (sorts : List Sort) (s : ℕ) (name : List ℕ) (o : Option ℕ)
    → position (is_sort s name) sorts ≡ o
    → unwrap_or o (length sorts) < length sorts
    → IsIn (sort_of s name) sorts
below sorts s name None e less = absurd (omega arith)
below sorts s name (Some i) e less =
    let found = position-Some (is_sort s name) sorts i (sort_of 0 []) e in
    subst (λ x. IsIn x sorts) (sym (is_sort_is s name _ found.1))
    (in_at sorts i (sort_of 0 []) found.0)

pub sorts_numbered : SortsAreNumbered
sorts_numbered sorts s name = (there, back)
  where
    there : IsIn (sort_of s name) sorts → sort_number sorts s name < length sorts
    there at =
        let number = number_there sorts s name at in
        let place = place_of (is_sort s name) (sort_of s name) sorts (is_own_sort s name) at in
        omega arith

    back : sort_number sorts s name < length sorts → IsIn (sort_of s name) sorts
    back less = below sorts s name _ refl less
