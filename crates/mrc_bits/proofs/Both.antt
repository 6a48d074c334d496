-- Bits that two rows have, set in a third one.
use Rattle.std.proofs.Common.{◌≡◌, ℕ, ◌+◌, ◌*◌, ◌/◌, ◌%◌, ◌<◌, ◌≤◌, Bool, true, false, List, length}
use Rattle.std.proofs.Common.{slice_index, slice_set, min, max, refl, ap, sym, ◌∙◌, inl, inr, ◌⊎◌, arith, ◌==◌}
use Rattle.std.specs.Prelude.{◌||◌, ◌&&◌, nat_lt, bit_and, bit_or}
use Rattle.std.specs.Int.{bit_at}
use Rattle.std.proofs.lemmas.Bool.{cases_eq, cases_lt, eq-eqb, ne_eqb, lt-ltb, le-ltb}
use Rattle.std.proofs.lemmas.Nat.Bits.{bit_at_and, bit_at_or}
use Rattle.std.proofs.lemmas.List.{get_or-set_same, get_or-set_other}
use Rattle.std.proofs.Math.Bool.{or-false, and-false}
use Rattle.mrc_bits.specs.Bits.{is_set}
use Rattle.mrc_bits.proofs.Words.{bit_cases}
use Rattle.mrc_bits.proofs.Counts.{past}

abbrev both : List ℕ → List ℕ → ℕ → Bool
both more mask i = is_set more i && is_set mask i

-- one word
word_both : (words more mask : List ℕ) (k i : ℕ) → k < length words
    → is_set (slice_set words k (bit_or (slice_index words k)
    (bit_and (slice_index more k) (slice_index mask k)))) i
    ≡ (is_set words i || (i / 64 == k && both more mask i))
word_both words more mask k i below = elim (cases_eq (i / 64) k) [
  | inl same ↦
      ap (λ w. bit_at w (i % 64) == 1)
      (ap (slice_index (slice_set words k put)) same ∙ get_or-set_same words k put 0 below)
      ∙ (ap (λ n. n == 1) (bit_at_or (slice_index words k) new (i % 64)
      ∙ ap (max (bit_at (slice_index words k) (i % 64)))
      (bit_at_and (slice_index more k) (slice_index mask k) (i % 64)))
      ∙ (three (bit_at (slice_index words k) (i % 64)) (bit_at (slice_index more k) (i % 64))
      (bit_at (slice_index mask k) (i % 64)) (bit_cases _ _) (bit_cases _ _) (bit_cases _ _)
      ∙ (ap (λ m. (bit_at (slice_index words m) (i % 64) == 1)
      || ((bit_at (slice_index more m) (i % 64) == 1)
      && (bit_at (slice_index mask m) (i % 64) == 1))) (sym same)
      ∙ sym (ap (λ b. is_set words i || (b && both more mask i)) (eq-eqb (i / 64) k same)))))
  | inr other ↦
      ap (λ w. bit_at w (i % 64) == 1) (get_or-set_other words k (i / 64) put 0 other)
      ∙ (sym (or-false (is_set words i))
      ∙ sym (ap (λ b. is_set words i || (b && both more mask i)) (ne_eqb (i / 64) k other)))
]
  where
    new : ℕ
    new = bit_and (slice_index more k) (slice_index mask k)

    put : ℕ
    put = bit_or (slice_index words k) new

    three : (a m b : ℕ) → (a ≡ 0) ⊎ (a ≡ 1) → (m ≡ 0) ⊎ (m ≡ 1) → (b ≡ 0) ⊎ (b ≡ 1)
        → (max a (min m b) == 1) ≡ ((a == 1) || ((m == 1) && (b == 1)))
    three a m b (inl x) (inl z) (inl y) = rw (x, z, y) refl
    three a m b (inl x) (inl z) (inr y) = rw (x, z, y) refl
    three a m b (inl x) (inr z) (inl y) = rw (x, z, y) refl
    three a m b (inl x) (inr z) (inr y) = rw (x, z, y) refl
    three a m b (inr x) (inl z) (inl y) = rw (x, z, y) refl
    three a m b (inr x) (inl z) (inr y) = rw (x, z, y) refl
    three a m b (inr x) (inr z) (inl y) = rw (x, z, y) refl
    three a m b (inr x) (inr z) (inr y) = rw (x, z, y) refl

-- the words before k, and those before the next one
pub next_both : (old now more mask : List ℕ) (k : ℕ) → length now ≡ length old → k < length old
    → ((i : ℕ) → is_set now i ≡ (is_set old i || (nat_lt i (64 * k) && both more mask i)))
    → (i : ℕ) → is_set (slice_set now k (bit_or (slice_index now k)
    (bit_and (slice_index more k) (slice_index mask k)))) i
    ≡ (is_set old i || (nat_lt i (64 * (k + 1)) && both more mask i))
next_both old now more mask k len below was i =
    word_both now more mask k i (omega arith)
    ∙ (ap (λ b. b || (i / 64 == k && both more mask i)) (was i) ∙ at (is_set old i))
  where
    swallow : (a b : Bool) → ((a || b) || (false && b)) ≡ (a || b)
    swallow true b = refl
    swallow false true = refl
    swallow false false = refl

    none : (a b : Bool) → ((a || (false && b)) || (true && b)) ≡ (a || b)
    none true b = refl
    none false b = refl

    nothing : (a b : Bool) → ((a || (false && b)) || (false && b)) ≡ (a || (false && b))
    nothing true b = refl
    nothing false b = refl

    at : (a : Bool) → ((a || (nat_lt i (64 * k) && both more mask i))
        || (i / 64 == k && both more mask i))
        ≡ (a || (nat_lt i (64 * (k + 1)) && both more mask i))
    at a = elim (cases_lt i (64 * k)) [
      | inl before ↦ rw (
        lt-ltb i (64 * k) before,
        ne_eqb (i / 64) k (omega arith),
        lt-ltb i (64 * (k + 1)) (omega arith),
      ) (swallow a (both more mask i))
      | inr behind ↦ elim (cases_lt i (64 * (k + 1))) [
        | inl here ↦ rw (
          le-ltb i (64 * k) behind,
          eq-eqb (i / 64) k (omega arith),
          lt-ltb i (64 * (k + 1)) here,
        ) (none a (both more mask i))
        | inr far ↦ rw (
          le-ltb i (64 * k) behind,
          ne_eqb (i / 64) k (omega arith),
          le-ltb i (64 * (k + 1)) far,
        ) (nothing a (both more mask i))
      ]
    ]

pub begin_both : (old more mask : List ℕ) (i : ℕ)
    → is_set old i ≡ (is_set old i || (nat_lt i 0 && both more mask i))
begin_both old more mask i =
    sym (or-false (is_set old i))
    ∙ sym (ap (λ b. is_set old i || (b && both more mask i)) (le-ltb i 0 (omega arith)))

-- behind the end of one of the three rows there is nothing more
pub end_both : (old more mask : List ℕ) (k i : ℕ)
    → (k ≡ length old) ⊎ ((length more ≤ k) ⊎ (length mask ≤ k)) → k ≤ length old
    → (nat_lt i (64 * k) && both more mask i) ≡ (nat_lt i (64 * length old) && both more mask i)
end_both old more mask k i (inl all) within = ap (λ n. nat_lt i (64 * n) && both more mask i) all
end_both old more mask k i (inr short) within = elim (cases_lt i (64 * k)) [
  | inl before ↦ rw (lt-ltb i (64 * k) before, lt-ltb i (64 * length old) (omega arith)) refl
  | inr behind ↦ rw (le-ltb i (64 * k) behind) (sym (ap (λ b. nat_lt i (64 * length old) && b) (none short behind)
      ∙ and-false (nat_lt i (64 * length old))))
]
  where
    none : (length more ≤ k) ⊎ (length mask ≤ k) → 64 * k ≤ i → both more mask i ≡ false
    none (inl m) behind = ap (λ b. b && is_set mask i) (past more i (omega arith))
    none (inr m) behind = ap (λ b. is_set more i && b) (past mask i (omega arith)) ∙ and-false (is_set more i)
