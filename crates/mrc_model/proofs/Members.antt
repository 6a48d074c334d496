-- Members of lists that are joined or filtered.
use Rattle.std.proofs.Common.{◌≡◌, ◌⊎◌, inl, inr, Bool, true, false, List, [], ◌∷◌, ◌++◌, refl, sym}
use Rattle.std.proofs.Common.{subst, ap, if◌then◌else◌, ◌∙◌, ℕ, zero, suc, Some, slice_get}
use Rattle.std.specs.List.{AllByRecursion, filter, list_any}
use Rattle.std.proofs.lemmas.Bool.{or_cases, or_right}
use Rattle.mrc_base.specs.declared.Fact.{Fact}
use Rattle.mrc_model.specs.IsIn.{IsIn, here, later}
use Rattle.mrc_model.proofs.FirstHeld.{in_cons}

pub in_left : {X : Type 0} (x : X) (xs ys : List X) → IsIn x xs → IsIn x (xs ++ ys)
in_left x [] ys h = elim h [ ]
in_left x (y ∷ xs) ys (here) = here
in_left x (y ∷ xs) ys (later h) = later (in_left x xs ys h)

pub in_right : {X : Type 0} (x : X) (xs ys : List X) → IsIn x ys → IsIn x (xs ++ ys)
in_right x [] ys h = h
in_right x (y ∷ xs) ys h = later (in_right x xs ys h)

pub in_append : {X : Type 0} (x : X) (xs ys : List X) → IsIn x (xs ++ ys) → IsIn x xs ⊎ IsIn x ys
in_append x [] ys h = inr h
in_append x (y ∷ xs) ys h = elim (in_cons x y (xs ++ ys) h) [
  | inl e ↦ inl (subst (λ v. IsIn v (y ∷ xs)) (sym e) here)
  | inr there ↦ elim (in_append x xs ys there) [ inl a ↦ inl (later a) | inr b ↦ inr b ]
]

pub in_filter : {X : Type 0} (test : X → Bool) (x : X) (xs : List X) → IsIn x (filter test xs)
    → IsIn x xs × (test x ≡ true)
in_filter test x [] h = elim h [ ]
in_filter {X} test x (y ∷ ys) h =
    let go : (b : Bool) → test y ≡ b → IsIn x (if b then y ∷ filter test ys else filter test ys)
    → IsIn x (y ∷ ys) × (test x ≡ true) = elim [
      | true ↦ λ t z. elim (in_cons x y (filter test ys) z) [
        | inl e ↦ (subst (λ v. IsIn v (y ∷ ys)) (sym e) here, ap test e ∙ t)
        | inr there ↦ let r = in_filter test x ys there in (later r.0, r.1)
      ]
      | false ↦ λ t z. let r = in_filter test x ys z in (later r.0, r.1)
    ] in
    go (test y) refl h

pub filter_in : {X : Type 0} (test : X → Bool) (x : X) (xs : List X) → IsIn x xs → test x ≡ true
    → IsIn x (filter test xs)
filter_in test x [] h t = elim h [ ]
filter_in {X} test x (y ∷ ys) (here) t =
    subst (λ b. IsIn x (if b then x ∷ filter test ys else filter test ys)) (sym t) here
filter_in {X} test x (y ∷ ys) (later h) t =
    let go : (b : Bool) → IsIn x (if b then y ∷ filter test ys
    else filter test ys) = elim [
      | true ↦ later
          (filter_in test x ys h t)
      | false ↦ filter_in test x ys h t
    ] in
    go (test y)

pub all_map : {P Q : Fact → Type 0} (ps : List Fact) → ((p : Fact) → P p → Q p)
    → AllByRecursion P ps → AllByRecursion Q ps
all_map [] k h = tt
all_map (p ∷ ps) k h = (k p h.0, all_map ps k h.1)

-- if a test holds of an element, so does each weaker test
pub any_more : {X : Type 0} (test other : X → Bool) (xs : List X)
    → ((x : X) → test x ≡ true → other x ≡ true) → list_any test xs ≡ true
    → list_any other xs ≡ true
any_more test other [] more e = cc
any_more test other (x ∷ xs) more e = elim (or_cases (test x) (list_any test xs) e) [
  | inl z ↦ let is = more x z in rw is refl
  | inr z ↦ or_right (other x) (list_any other xs) (any_more test other xs more z)
]

-- an element that passes a test is there if and only if the test finds one
pub in_any : {X : Type 0} (test : X → Bool) (x : X) (xs : List X) → IsIn x xs → test x ≡ true
    → list_any test xs ≡ true
in_any test x [] i e = elim i [ ]
in_any test x (y ∷ xs) (here) e = rw e
in_any test x (y ∷ xs) (later i) e = or_right (test y) (list_any test xs) (in_any test x xs i e)

pub any_in : {X : Type 0} (test : X → Bool) (xs : List X) → list_any test xs ≡ true
    → (x : X) × IsIn x xs × (test x ≡ true)
any_in test [] e = cc
any_in test (x ∷ xs) e = elim (or_cases (test x) (list_any test xs) e) [
  | inl at ↦ (x, here, at)
  | inr more ↦ let rest = any_in test xs more in (rest.0, later rest.1, rest.2)
]

-- what is at a place is one of the list
pub in_get : {X : Type 0} (xs : List X) (i : ℕ) (x : X) → slice_get xs i ≡ Some x → IsIn x xs
in_get [] i x e = absurd cc
in_get (y ∷ xs) zero x e = subst (λ z. IsIn z (y ∷ xs)) (let same : y ≡ x = cc in same) here
in_get (y ∷ xs) (suc i) x e = later (in_get xs i x e)
