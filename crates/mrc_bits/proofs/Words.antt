-- Bits of words, and of rows of words.
use Rattle.std.proofs.Common.{◌≡◌, ℕ, ◌+◌, ◌-◌, ◌*◌, ◌/◌, ◌%◌, ◌^◌, ◌<◌, ◌≤◌, false, List, length, slice_index, slice_set, min, refl, ap, sym, ◌∙◌, inl, inr, ◌⊎◌, arith, lit<, ◌==◌}
use Rattle.std.specs.Prelude.{◌||◌, ◌&&◌, not, bit_and, bit_or}
use Rattle.std.specs.Int.{bit_at, w64, bit_not, trailing_zeros}
use Rattle.std.proofs.lemmas.Bool.{cases_eq, cases_lt, eq-eqb, ne_eqb}
use Rattle.std.proofs.lemmas.Nat.{div-add-mod', mod_below, pow_pos}
use Rattle.std.proofs.Math.Nat.{div-le_self}
use Rattle.std.proofs.lemmas.Nat.Bits.{bit_at_and, bit_at-lt, bit_at_set_same, bit_at_set_other, bit_at_clear_same, bit_at_clear_other, bit_at_cat_high, bit_at_not, bit_at_above, bit_at-zero, bit_at-trailing_zeros}
use Rattle.std.proofs.lemmas.List.{get_or-set_same, get_or-set_other}
use Rattle.mrc_bits.specs.Bits.{is_set, is_fresh, IsNextIn, NoneIn, IsNextFresh}

-- a bit is 0 or 1
pub bit_cases : (n i : ℕ) → (bit_at n i ≡ 0) ⊎ (bit_at n i ≡ 1)
bit_cases n i = elim (cases_eq (bit_at n i) 0) [ inl e ↦ inl e | inr other ↦ let h = bit_at-lt n i in inr (omega arith) ]

-- a shift by k
pub shifted : (n k i : ℕ) → k ≤ i → bit_at n i ≡ bit_at (n / 2 ^ k) (i - k)
shifted n k i h = ap (λ m. bit_at m i) (sym (div-add-mod' n (2 ^ k))) ∙ bit_at_cat_high (n / 2 ^ k) k (n % 2 ^ k) i (mod_below n (2 ^ k) (pow_pos k)) h

pub none_in : (word from : ℕ) → word / 2 ^ from ≡ 0 → NoneIn word from
none_in word from e j above below = shifted word from j above ∙ (ap (λ m. bit_at m (j - from)) e ∙ bit_at-zero (j - from))

pub next_in : (word from : ℕ) → word < 2 ^ 64 → from < 64 → (word / 2 ^ from ≡ 0 → ⊥) → IsNextIn word from (from + trailing_zeros w64 (word / 2 ^ from))
next_in word from fits below some = record {
  from_there = omega arith;
  below = in_word;
  set = is_one;
  first = λ j above under. shifted word from j above ∙ t.2 (j - from) (omega arith);
}
  where
    rest_fits : word / 2 ^ from < 2 ^ 64
    rest_fits = let h = div-le_self word (2 ^ from) in omega arith

    t : (trailing_zeros w64 (word / 2 ^ from) < 64) × (bit_at (word / 2 ^ from) (trailing_zeros w64 (word / 2 ^ from)) ≡ 1) × ((i : ℕ) → i < trailing_zeros w64 (word / 2 ^ from) → bit_at (word / 2 ^ from) i ≡ 0)
    t = bit_at-trailing_zeros w64 (word / 2 ^ from) (omega (arith, some)) rest_fits

    is_one : bit_at word (from + trailing_zeros w64 (word / 2 ^ from)) ≡ 1
    is_one = shifted word from _ (omega arith) ∙ (ap (bit_at (word / 2 ^ from)) (omega arith) ∙ t.1)

    in_word : from + trailing_zeros w64 (word / 2 ^ from) < 64
    in_word = elim (cases_lt (from + trailing_zeros w64 (word / 2 ^ from)) 64) [
      | inl low ↦ low
      | inr high ↦ absurd (
          let above : bit_at word (from + trailing_zeros w64 (word / 2 ^ from)) ≡ 0 = bit_at_above word 64 _ fits high in
          let one : bit_at word (from + trailing_zeros w64 (word / 2 ^ from)) ≡ 1 = is_one in
          omega (arith, above, one))
    ]

-- setting a bit
pub set_there : (words : List ℕ) (i : ℕ) → i < 64 * length words → (j : ℕ)
    → is_set (slice_set words (i / 64) (bit_or (slice_index words (i / 64)) (1 * 2 ^ (i % 64) % 2 ^ 64))) j ≡ (j == i || is_set words j)
set_there words i below j =
    elim (cases_eq j i) [
      | inl same ↦ rw (eq-eqb j i same, same, get_or-set_same words (i / 64) (bit_or (slice_index words (i / 64)) (1 * 2 ^ (i % 64) % 2 ^ 64)) 0 (omega arith), bit_at_set_same w64 (slice_index words (i / 64)) (i % 64) (mod_below i 64 (lit< tt))) refl
      | inr other ↦ rw (ne_eqb j i other) (elim (cases_eq (j / 64) (i / 64)) [
        | inl word ↦ rw (word, get_or-set_same words (i / 64) (bit_or (slice_index words (i / 64)) (1 * 2 ^ (i % 64) % 2 ^ 64)) 0 (omega arith), bit_at_set_other w64 (slice_index words (i / 64)) (i % 64) (mod_below i 64 (lit< tt)) (j % 64) (λ e. other (omega arith))) refl
        | inr word ↦ rw (get_or-set_other words (i / 64) (j / 64) (bit_or (slice_index words (i / 64)) (1 * 2 ^ (i % 64) % 2 ^ 64)) 0 word) refl
      ])
    ]

-- clearing a bit
pub clear_there : (words : List ℕ) (i : ℕ) → i < 64 * length words → (j : ℕ)
    → is_set (slice_set words (i / 64) (bit_and (slice_index words (i / 64)) (bit_not w64 (1 * 2 ^ (i % 64) % 2 ^ 64)))) j ≡ (not (j == i) && is_set words j)
clear_there words i below j =
    elim (cases_eq j i) [
      | inl same ↦ rw (eq-eqb j i same, same, get_or-set_same words (i / 64) (bit_and (slice_index words (i / 64)) (bit_not w64 (1 * 2 ^ (i % 64) % 2 ^ 64))) 0 (omega arith), bit_at_clear_same w64 (slice_index words (i / 64)) (i % 64) (mod_below i 64 (lit< tt))) refl
      | inr other ↦ rw (ne_eqb j i other) (elim (cases_eq (j / 64) (i / 64)) [
        | inl word ↦ rw (word, get_or-set_same words (i / 64) (bit_and (slice_index words (i / 64)) (bit_not w64 (1 * 2 ^ (i % 64) % 2 ^ 64))) 0 (omega arith), bit_at_clear_other w64 (slice_index words (i / 64)) (i % 64) (mod_below i 64 (lit< tt)) (j % 64) (mod_below j 64 (lit< tt)) (λ e. other (omega arith))) refl
        | inr word ↦ rw (get_or-set_other words (i / 64) (j / 64) (bit_and (slice_index words (i / 64)) (bit_not w64 (1 * 2 ^ (i % 64) % 2 ^ 64))) 0 word) refl
      ])
    ]

-- the bits that two words have and a third one lacks
word_there : (word masked own i : ℕ) → own < 2 ^ 64 → i < 64
    → (bit_at (bit_and (bit_and word masked) (2 ^ 64 - 1 - own)) i == 1)
    ≡ ((bit_at word i == 1 && bit_at masked i == 1) && not (bit_at own i == 1))
word_there word masked own i fits below =
    ap (λ n. n == 1) (bit_at_and (bit_and word masked) (2 ^ 64 - 1 - own) i
    ∙ (ap (λ n. min n (bit_at (2 ^ 64 - 1 - own) i)) (bit_at_and word masked i)
    ∙ ap (min (min (bit_at word i) (bit_at masked i))) (bit_at_not w64 own i fits below)))
    ∙ by_cases (bit_at word i) (bit_at masked i) (bit_at own i)
    (bit_cases word i) (bit_cases masked i) (bit_cases own i)
  where
    by_cases : (a m b : ℕ) → (a ≡ 0) ⊎ (a ≡ 1) → (m ≡ 0) ⊎ (m ≡ 1) → (b ≡ 0) ⊎ (b ≡ 1)
        → (min (min a m) (1 - b) == 1) ≡ ((a == 1 && m == 1) && not (b == 1))
    by_cases a m b (inl x) (inl z) (inl y) = rw (x, z, y) refl
    by_cases a m b (inl x) (inl z) (inr y) = rw (x, z, y) refl
    by_cases a m b (inl x) (inr z) (inl y) = rw (x, z, y) refl
    by_cases a m b (inl x) (inr z) (inr y) = rw (x, z, y) refl
    by_cases a m b (inr x) (inl z) (inl y) = rw (x, z, y) refl
    by_cases a m b (inr x) (inl z) (inr y) = rw (x, z, y) refl
    by_cases a m b (inr x) (inr z) (inl y) = rw (x, z, y) refl
    by_cases a m b (inr x) (inr z) (inr y) = rw (x, z, y) refl

-- and the same of rows
pub fresh_there : (words more mask : List ℕ) (k i own : ℕ) → own ≡ slice_index words k
    → own < 2 ^ 64 → i < 64
    → (bit_at (bit_and (bit_and (slice_index more k) (slice_index mask k)) (2 ^ 64 - 1 - own)) i
    == 1) ≡ is_fresh words more mask (64 * k + i)
fresh_there words more mask k i own is fits below =
    word_there (slice_index more k) (slice_index mask k) own i fits below
    ∙ (ap (λ w. (bit_at (slice_index more k) i == 1 && bit_at (slice_index mask k) i == 1)
    && not (bit_at w i == 1)) is ∙ at_place)
  where
    at_place : ((bit_at (slice_index more k) i == 1 && bit_at (slice_index mask k) i == 1)
        && not (bit_at (slice_index words k) i == 1)) ≡ is_fresh words more mask (64 * k + i)
    at_place =
        let d : (64 * k + i) / 64 ≡ k = omega arith in
        let m : (64 * k + i) % 64 ≡ i = omega arith in
        rw (d, m) refl

-- the first fresh bit of a word is that of the rows, where none comes before the word
pub found_fresh : (words more mask : List ℕ) (from place start i word : ℕ)
    → ((j : ℕ) → j < 64 → (bit_at word j == 1) ≡ is_fresh words more mask (64 * place + j))
    → IsNextIn word start i
    → ((j : ℕ) → from ≤ j → j < 64 * place + start → is_fresh words more mask j ≡ false)
    → from ≤ 64 * place + start → place < length more
    → IsNextFresh words more mask from (64 * place + i)
found_fresh words more mask from place start i word shown next none above below = record {
  from_there = let a = next.from_there in omega arith;
  below = let b = next.below in omega arith;
  fresh = sym (shown i next.below) ∙ ap (λ b. b == 1) next.set;
  first = λ j low under. elim (cases_lt j (64 * place + start)) [
    | inl before ↦ none j low before
    | inr behind ↦
        let b = next.below in
        let at : 64 * place + (j - 64 * place) ≡ j = omega arith in
        let near : j - 64 * place < i = omega arith in
        let far : start ≤ j - 64 * place = omega arith in
        ap (is_fresh words more mask) (sym at)
        ∙ (sym (shown (j - 64 * place) (omega arith))
        ∙ ap (λ b. b == 1) (next.first (j - 64 * place) far near))
  ];
}
