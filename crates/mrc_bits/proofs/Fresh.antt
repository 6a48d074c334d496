-- Words whose fresh bits are put together.
use Rattle.std.proofs.Common.{◌≡◌, ℕ, ◌+◌, ◌-◌, ◌*◌, ◌/◌, ◌%◌, ◌^◌, ◌<◌, ◌≤◌, ◌==◌, List, length}
use Rattle.std.proofs.Common.{slice_index, true, false, min, refl, ap, sym, ◌∙◌, inl, inr, arith}
use Rattle.std.specs.Prelude.{◌&&◌, ◌⊎◌, bit_or, bit_and}
use Rattle.std.specs.Int.{bit_at, w64, trailing_zeros}
use Rattle.std.specs.Int.Bits.{or_zero_l}
use Rattle.std.proofs.lemmas.Bool.{cases_lt}
use Rattle.std.proofs.lemmas.Nat.{le_or_l, le_or_r}
use Rattle.std.proofs.lemmas.Nat.Bits.{bit_at_and, bit_at-zero, bit_at-trailing_zeros}
use Rattle.mrc_bits.specs.Bits.{is_fresh, AnyFresh}
use Rattle.mrc_bits.proofs.Words.{bit_cases}
use Rattle.mrc_bits.proofs.Counts.{past}

module _ (words more mask : List ℕ) (k put word : ℕ)
    (shown : (i : ℕ) → i < 64 → (bit_at word i == 1) ≡ is_fresh words more mask (64 * k + i)) where
  -- no bit of the word is fresh where it is 0
  none_here : word ≡ 0 → (i : ℕ) → 64 * k ≤ i → i < 64 * (k + 1)
      → is_fresh words more mask i ≡ false
  none_here zero i low high =
      let at : 64 * k + (i - 64 * k) ≡ i = omega arith in
      ap (is_fresh words more mask) (sym at)
      ∙ (sym (shown (i - 64 * k) (omega arith))
      ∙ (ap (λ w. bit_at w (i - 64 * k) == 1) zero
      ∙ ap (λ b. b == 1) (bit_at-zero (i - 64 * k))))

  -- nor is one of the words before it
  pub none_more : (from : ℕ)
      → (put ≡ 0 → (i : ℕ) → from ≤ i → i < 64 * k → is_fresh words more mask i ≡ false)
      → bit_or put word ≡ 0
      → (i : ℕ) → from ≤ i → i < 64 * (k + 1) → is_fresh words more mask i ≡ false
  none_more from before zero i low high =
      let one = le_or_l put word in
      let other = le_or_r put word in
      elim (cases_lt i (64 * k)) [
        | inl below ↦ before (omega (arith, one, zero)) i low below
        | inr behind ↦ none_here (omega (arith, other, zero)) i behind high
      ]

  -- some bit of the word is fresh where it is not 0
  some_here : 0 < word → word < 2 ^ 64 → AnyFresh words more mask
  some_here some fits =
      let t = bit_at-trailing_zeros w64 word some fits in (
        64 * k + trailing_zeros w64 word,
        sym (shown (trailing_zeros w64 word) t.0) ∙ ap (λ b. b == 1) t.1,
      )

  -- or of those before it
  pub some_more : (0 < put → AnyFresh words more mask) → word < 2 ^ 64 → 0 < bit_or put word
      → AnyFresh words more mask
  some_more before fits some = elim (cases_lt 0 put) [
    | inl there ↦ before there
    | inr none ↦
        let zero : put ≡ 0 = omega (arith, none) in
        let only : bit_or put word ≡ word = ap (λ n. bit_or n word) zero ∙ or_zero_l word in
        some_here (omega (arith, some, only)) fits
  ]

-- behind the last word all bits that both have are fresh
pub fresh_past : (words more mask : List ℕ) (k i : ℕ) → length words ≤ k → i < 64
    → (bit_at (bit_and (slice_index more k) (slice_index mask k)) i == 1)
    ≡ is_fresh words more mask (64 * k + i)
fresh_past words more mask k i behind below =
    let d : (64 * k + i) / 64 ≡ k = omega arith in
    let m : (64 * k + i) % 64 ≡ i = omega arith in
    ap (λ n. n == 1) (bit_at_and (slice_index more k) (slice_index mask k) i)
    ∙ (either (bit_at (slice_index more k) i) (bit_at (slice_index mask k) i)
    (bit_cases _ _) (bit_cases _ _)
    ∙ (sym (and_true (bit_at (slice_index more k) i == 1 && bit_at (slice_index mask k) i == 1))
    ∙ rw (past words (64 * k + i) (omega arith), d, m) refl))
  where
    either : (a b : ℕ) → (a ≡ 0) ⊎ (a ≡ 1) → (b ≡ 0) ⊎ (b ≡ 1)
        → (min a b == 1) ≡ (a == 1 && b == 1)
    either a b (inl x) (inl y) = rw (x, y) refl
    either a b (inl x) (inr y) = rw (x, y) refl
    either a b (inr x) (inl y) = rw (x, y) refl
    either a b (inr x) (inr y) = rw (x, y) refl

    and_true : (b : _) → (b && true) ≡ b
    and_true true = refl
    and_true false = refl
