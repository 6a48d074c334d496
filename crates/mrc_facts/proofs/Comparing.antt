-- What it means that one fact comes before another: the first of their numbers that differ tell.
use Rattle.std.proofs.Common.{◌≡◌, ℕ, ◌<◌, true, ◌⊎◌, inl, inr, arith}
use Rattle.std.specs.declared.cmp.Ordering.{Ordering}
use Rattle.std.specs.Ordering.{nat_cmp, ordering_then, is_lt}
use Rattle.std.proofs.lemmas.Bool.{cases_order, le-ltb, eq-eqb, ne_eqb}

pub cmp_less : (m n : ℕ) (o : Ordering)
    → is_lt (ordering_then (nat_cmp m n) o) ≡ true
    → (m < n) ⊎ ((m ≡ n) × (is_lt o ≡ true))
cmp_less m n o e =
    elim (cases_order m n) [
      | inl same ↦ inr (same, rw (le-ltb m n (omega arith), eq-eqb m n same) at e)
      | inr (inl less) ↦ inl less
      | inr (inr greater) ↦ absurd
          (let x = rw (le-ltb m n (omega arith), ne_eqb m n (omega arith)) at e in cc)
    ]

pub last_less : (m n : ℕ) → is_lt (nat_cmp m n) ≡ true → m < n
last_less m n e =
    elim (cases_order m n) [
      | inl same ↦ absurd (let x = rw (le-ltb m n (omega arith), eq-eqb m n same) at e in cc)
      | inr (inl less) ↦ less
      | inr (inr greater) ↦ absurd
          (let x = rw (le-ltb m n (omega arith), ne_eqb m n (omega arith)) at e in cc)
    ]

-- three numbers come before three others
abbrev pub IsLess : ℕ → ℕ → ℕ → ℕ → ℕ → ℕ → Type 0
IsLess a c l b d m = (a < b) ⊎ ((a ≡ b) × ((c < d) ⊎ ((c ≡ d) × (l < m))))

pub three_less : (a c l b d m : ℕ)
    → is_lt (ordering_then (nat_cmp a b) (ordering_then (nat_cmp c d) (nat_cmp l m))) ≡ true
    → IsLess a c l b d m
three_less a c l b d m e =
    elim (cmp_less a b (ordering_then (nat_cmp c d) (nat_cmp l m)) e) [
      | inl low ↦ inl low
      | inr (same, rest) ↦ elim (cmp_less c d (nat_cmp l m) rest) [
        | inl low ↦ inr (same, inl low)
        | inr (also, last) ↦ inr (same, inr (also, last_less l m last))
      ]
    ]
