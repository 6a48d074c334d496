-- The first number below n that passes a test, as threads find it.
use Rattle.std.proofs.Common.{◌≡◌, ℕ, zero, suc, ◌+◌, ◌-◌, ◌<◌, ◌≤◌, Bool, true, false, List, []}
use Rattle.std.proofs.Common.{◌∷◌, Option, Some, None, inl, inr, refl, sym, subst, ap, ◌∙◌, arith}
use Rattle.std.proofs.Common.{IsTrue, ◌↔◌, IfSome, IfNone}
use Rattle.std.specs.Prelude.{slice_get}
use Rattle.std.specs.Borrow.{Bor}
use Rattle.std.specs.List.{AllZip, range_with_len}
use Rattle.std.proofs.lemmas.Bool.{false≢true, cases_eq}
use Rattle.rayon.specs.Lists.{filter_by_mask}
use Rattle.rayon.specs.Numbers.{nat_range}

module _ (P : ℕ → Type 0) where
  -- the first of n numbers from a on that passes; none where none does
  abbrev pub IsFirst : ℕ → ℕ → Option ℕ → Type 0
  IsFirst a n None = (m : ℕ) → a ≤ m → m < a + n → P m → ⊥
  IsFirst a n (Some k) =
      (a ≤ k) × (k < a + n) × P k × ((m : ℕ) → a ≤ m → m < k → P m → ⊥)

  -- what a test answers of a number
  abbrev Tells : ℕ → Bool → Type 0
  Tells x b = (r : Bor ℕ) × (r.now ≡ x) × (IsTrue b ↔ P r.now)

  behind : (a n : ℕ) (o : Option ℕ) → (P a → ⊥) → IsFirst (a + 1) n o → IsFirst a (suc n) o
  behind a n None not_here rest = λ m low high p. elim (cases_eq m a) [
    | inl e ↦ not_here (subst P e p)
    | inr other ↦ rest m (omega arith) (omega arith) p
  ]
  behind a n (Some k) not_here rest = (
    omega arith,
    omega (arith, rest.1),
    rest.2,
    λ m low high p. elim (cases_eq m a) [
      | inl e ↦ not_here (subst P e p)
      | inr other ↦ rest.3 m (omega arith) high p
    ],
  )

  first_by : (a n : ℕ) (bs : List Bool)
      → AllZip Tells (range_with_len a n) bs
      → IsFirst a n (slice_get (filter_by_mask (range_with_len a n) bs) 0)
  first_by a zero [] h = λ m low high p. omega arith
  first_by a zero (b ∷ bs) h = absurd h
  first_by a (suc n) [] h = absurd h
  first_by a (suc n) (true ∷ bs) h =
      (omega arith, omega arith, subst P h.0.1 (h.0.2.0 refl), λ m low high p. omega arith)
  first_by a (suc n) (false ∷ bs) h =
      behind a n (slice_get (filter_by_mask (range_with_len (a + 1) n) bs) 0)
      (λ p. false≢true (h.0.2.1 (subst P (sym h.0.1) p)))
      (first_by (a + 1) n bs h.1)

  -- what the search by threads gives
  pub first_of : (n : ℕ) (xs : List ℕ) (bs : List Bool) (o : Option ℕ)
      → xs ≡ nat_range 0 n
      → AllZip Tells xs bs
      → o ≡ slice_get (filter_by_mask xs bs) 0
      → IsFirst 0 n o
  first_of n xs bs o list zip is =
      let len : n - 0 ≡ n = omega arith in
      let all = list ∙ ap (range_with_len 0) len in
      subst (IsFirst 0 n) (sym is)
      (subst (λ ys. AllZip Tells ys bs → IsFirst 0 n (slice_get (filter_by_mask ys bs) 0))
      (sym all) (first_by 0 n bs) zip)

  pub found_in : (n : ℕ) (o : Option ℕ) → IsFirst 0 n o → IfSome o P
  found_in n None f = tt
  found_in n (Some k) f = f.2

  pub least_in : (n : ℕ) (o : Option ℕ)
      → IsFirst 0 n o
      → IfSome o (λ k. (m : ℕ) → m < k → P m → ⊥)
  least_in n None f = tt
  least_in n (Some k) f = λ m high p. f.3 m (omega arith) high p

  pub none_in : (n : ℕ) (o : Option ℕ)
      → IsFirst 0 n o
      → IfNone o ((m : ℕ) → m < n → P m → ⊥)
  none_in n None f = λ m high p. f m (omega arith) (omega (arith, high)) p
  none_in n (Some k) f = tt
