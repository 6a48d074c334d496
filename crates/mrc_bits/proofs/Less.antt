-- Bits that one row has, cleared in another one.
use Rattle.std.proofs.Common.{◌≡◌, ℕ, ◌+◌, ◌-◌, ◌*◌, ◌/◌, ◌%◌, ◌^◌, ◌<◌, Bool, true, false, List}
use Rattle.std.proofs.Common.{length, slice_index, slice_set, min, refl, ap, sym, ◌∙◌, inl, inr, ◌⊎◌}
use Rattle.std.proofs.Common.{arith, lit<, ◌==◌}
use Rattle.std.specs.Prelude.{◌&&◌, not, nat_lt, bit_and}
use Rattle.std.specs.Int.{bit_at, w64}
use Rattle.std.proofs.lemmas.Bool.{cases_eq, cases_lt, eq-eqb, ne_eqb, lt-ltb, le-ltb}
use Rattle.std.proofs.lemmas.Nat.{mod_below}
use Rattle.std.proofs.lemmas.Nat.Bits.{bit_at_and, bit_at_not}
use Rattle.std.proofs.lemmas.List.{get_or-set_same, get_or-set_other}
use Rattle.std.proofs.Math.Bool.{and-true}
use Rattle.mrc_bits.specs.Bits.{is_set}
use Rattle.mrc_bits.proofs.Words.{bit_cases}

-- one word
pub word_less : (words less : List ℕ) (k own : ℕ) → k < length words → own ≡ slice_index less k
    → own < 2 ^ 64 → (i : ℕ)
    → is_set (slice_set words k (bit_and (slice_index words k) (2 ^ 64 - 1 - own))) i
    ≡ (is_set words i && not (i / 64 == k && is_set less i))
word_less words less k own below is fits i = elim (cases_eq (i / 64) k) [
  | inl same ↦
      ap (λ w. bit_at w (i % 64) == 1)
      (ap (slice_index (slice_set words k put)) same ∙ get_or-set_same words k put 0 below)
      ∙ (ap (λ n. n == 1) (bit_at_and (slice_index words k) (2 ^ 64 - 1 - own) (i % 64)
      ∙ ap (min (bit_at (slice_index words k) (i % 64)))
      (bit_at_not w64 own (i % 64) fits (mod_below i 64 (lit< tt))))
      ∙ (two (bit_at (slice_index words k) (i % 64)) (bit_at own (i % 64))
      (bit_cases _ _) (bit_cases _ _)
      ∙ (ap (λ w. (bit_at (slice_index words k) (i % 64) == 1) && not (bit_at w (i % 64) == 1)) is
      ∙ (ap (λ m. (bit_at (slice_index words m) (i % 64) == 1)
      && not (bit_at (slice_index less m) (i % 64) == 1)) (sym same)
      ∙ sym (ap (λ b. is_set words i && not (b && is_set less i)) (eq-eqb (i / 64) k same))))))
  | inr other ↦
      ap (λ w. bit_at w (i % 64) == 1) (get_or-set_other words k (i / 64) put 0 other)
      ∙ (sym (and-true (is_set words i))
      ∙ sym (ap (λ b. is_set words i && not (b && is_set less i)) (ne_eqb (i / 64) k other)))
]
  where
    put : ℕ
    put = bit_and (slice_index words k) (2 ^ 64 - 1 - own)

    two : (a b : ℕ) → (a ≡ 0) ⊎ (a ≡ 1) → (b ≡ 0) ⊎ (b ≡ 1)
        → (min a (1 - b) == 1) ≡ ((a == 1) && not (b == 1))
    two a b (inl x) (inl y) = rw (x, y) refl
    two a b (inl x) (inr y) = rw (x, y) refl
    two a b (inr x) (inl y) = rw (x, y) refl
    two a b (inr x) (inr y) = rw (x, y) refl

-- the words before k, and those before the next one
pub next_less : (old now then less : List ℕ) (k : ℕ)
    → ((i : ℕ) → is_set now i ≡ (is_set old i && not (nat_lt i (64 * k) && is_set less i)))
    → ((i : ℕ) → is_set then i ≡ (is_set now i && not (i / 64 == k && is_set less i)))
    → (i : ℕ) → is_set then i
    ≡ (is_set old i && not (nat_lt i (64 * (k + 1)) && is_set less i))
next_less old now then less k was is i =
    is i ∙ (ap (λ b. b && not (i / 64 == k && is_set less i)) (was i) ∙ at (is_set old i) (is_set less i))
  where
    low : (a b : Bool) → ((a && not b) && true) ≡ (a && not b)
    low true true = refl
    low true false = refl
    low false b = refl

    mid : (a b : Bool) → ((a && true) && not b) ≡ (a && not b)
    mid true b = refl
    mid false b = refl

    high : (a : Bool) → ((a && true) && true) ≡ (a && true)
    high true = refl
    high false = refl

    at : (a b : Bool) → ((a && not (nat_lt i (64 * k) && b)) && not (i / 64 == k && b))
        ≡ (a && not (nat_lt i (64 * (k + 1)) && b))
    at a b = elim (cases_lt i (64 * k)) [
      | inl before ↦ rw (
        lt-ltb i (64 * k) before,
        ne_eqb (i / 64) k (omega arith),
        lt-ltb i (64 * (k + 1)) (omega arith),
      ) (low a b)
      | inr behind ↦ elim (cases_lt i (64 * (k + 1))) [
        | inl here ↦ rw (
          le-ltb i (64 * k) behind,
          eq-eqb (i / 64) k (omega arith),
          lt-ltb i (64 * (k + 1)) here,
        ) (mid a b)
        | inr far ↦ rw (
          le-ltb i (64 * k) behind,
          ne_eqb (i / 64) k (omega arith),
          le-ltb i (64 * (k + 1)) far,
        ) (high a)
      ]
    ]

pub begin_less : (old less : List ℕ) (i : ℕ)
    → is_set old i ≡ (is_set old i && not (nat_lt i 0 && is_set less i))
begin_less old less i =
    sym (and-true (is_set old i))
    ∙ sym (ap (λ b. is_set old i && not (b && is_set less i)) (le-ltb i 0 (omega arith)))
