-- How many bits of a range are fresh, and of a word.
use Rattle.std.proofs.Common.{◌≡◌, ℕ, suc, zero, ◌+◌, ◌-◌, ◌*◌, ◌/◌, ◌%◌, ◌^◌, ◌<◌, ◌≤◌, ◌==◌, Bool, true, false, List, length, slice_index, slice_set, refl, ap, sym, ◌∙◌, inl, inr, ◌⊎◌, arith}
use Rattle.std.specs.Prelude.{◌||◌, ◌&&◌, not, nat_lt, bit_or, max}
use Rattle.std.specs.Int.{bit_at}
use Rattle.std.specs.Int.Count.{ones, ones_step}
use Rattle.std.specs.List.{count_by, range_with_len}
use Rattle.std.proofs.Math.Bool.{cond, or-false}
use Rattle.std.proofs.lemmas.Bool.{cases_eq, cases_lt, eq-eqb, ne_eqb, lt-ltb, le-ltb}
use Rattle.std.proofs.lemmas.List.{get_or-set_same, get_or-set_other, get_or_past}
use Rattle.std.proofs.lemmas.List.Sums.{count_by-le-length, sum_by-cons}
use Rattle.std.proofs.lemmas.List.FromFn.{length-range_with_len}
use Rattle.std.proofs.lemmas.Nat.{ones-le}
use Rattle.std.proofs.lemmas.Nat.Bits.{bit_at-suc, bit_at_lowest, bit_at_or, bit_at-zero}
use Rattle.mrc_bits.specs.Bits.{is_set, is_fresh, fresh_count}
use Rattle.mrc_bits.proofs.Words.{bit_cases}

-- of a range

count_cons : (p : ℕ → Bool) (a n : ℕ)
    → count_by p (range_with_len a (suc n)) ≡ cond (p a) 1 0 + count_by p (range_with_len (a + 1) n)
count_cons p a n = sum_by-cons (λ x. cond (p x) 1 0) a (range_with_len (a + 1) n)

-- two parts of a range
count_parts : (p : ℕ → Bool) (a n m : ℕ)
    → count_by p (range_with_len a (n + m))
    ≡ count_by p (range_with_len a n) + count_by p (range_with_len (a + n) m)
count_parts p a zero m =
    let all : count_by p (range_with_len a (0 + m)) ≡ count_by p (range_with_len a m)
    = ap (λ k. count_by p (range_with_len a k)) {x = 0 + m} {y = m} (omega arith) in
    let end : count_by p (range_with_len (a + 0) m) ≡ count_by p (range_with_len a m)
    = ap (λ k. count_by p (range_with_len k m)) {x = a + 0} {y = a} (omega arith) in
    omega (arith, all, end)
count_parts p a (suc n) m =
    let whole = count_cons p a (n + m) in
    let first = count_cons p a n in
    let rest = count_parts p (a + 1) n m in
    let end : count_by p (range_with_len (a + 1 + n) m) ≡ count_by p (range_with_len (a + suc n) m)
    = ap (λ k. count_by p (range_with_len k m)) (omega arith) in
    let all : count_by p (range_with_len a (suc n + m))
    ≡ count_by p (range_with_len a (suc (n + m)))
    = ap (λ k. count_by p (range_with_len a k)) {x = suc n + m} {y = suc (n + m)} (omega arith) in
    omega (arith, whole, first, rest, end, all)

-- two tests that agree on the range
count_same : (p q : ℕ → Bool) (a n : ℕ) → ((i : ℕ) → a ≤ i → i < a + n → p i ≡ q i)
    → count_by p (range_with_len a n) ≡ count_by q (range_with_len a n)
count_same p q a zero same = refl
count_same p q a (suc n) same =
    count_cons p a n
    ∙ (ap (λ b. cond b 1 0 + count_by p (range_with_len (a + 1) n))
    (same a (omega arith) (omega arith))
    ∙ (ap (λ k. cond (q a) 1 0 + k)
    (count_same p q (a + 1) n (λ i low high. same i (omega arith) (omega arith)))
    ∙ sym (count_cons q a n)))

-- none of the range
count_none : (p : ℕ → Bool) (a n : ℕ) → ((i : ℕ) → a ≤ i → i < a + n → p i ≡ false)
    → count_by p (range_with_len a n) ≡ 0
count_none p a zero none = refl
count_none p a (suc n) none =
    let whole = count_cons p a n in
    let at : p a ≡ false = none a (omega arith) (omega arith) in
    let first = counted at in
    let rest = count_none p (a + 1) n (λ i low high. none i (omega arith) (omega arith)) in
    omega (arith, whole, first, rest)
  where
    counted : {b : Bool} → b ≡ false → ◌≡◌ {A = ℕ} (cond b 1 0) 0
    counted e = rw e refl

-- the bits of a word
count_word : (p : ℕ → Bool) (d a w : ℕ) → w < 2 ^ d
    → ((i : ℕ) → i < d → (bit_at w i == 1) ≡ p (a + i))
    → ones w ≡ count_by p (range_with_len a d)
count_word p zero a w fits shown = let few = ones-le 0 w fits in omega (arith, few)
count_word p (suc d) a w fits shown =
    ones_step w
    ∙ (ap (λ k. k + ones (w / 2)) lowest
    ∙ (ap (λ k. cond (p a) 1 0 + k) (count_word p d (a + 1) (w / 2) (omega arith) higher)
    ∙ sym (count_cons p a d)))
  where
    digit : (b : ℕ) → (b ≡ 0) ⊎ (b ≡ 1) → b ≡ cond (b == 1) 1 0
    digit b (inl e) = rw e refl
    digit b (inr e) = rw e refl

    lowest : w % 2 ≡ cond (p a) 1 0
    lowest =
        sym (bit_at_lowest w)
        ∙ (digit (bit_at w 0) (bit_cases w 0)
        ∙ ap (λ b. cond b 1 0) (shown 0 (omega arith) ∙ ap p (omega arith)))

    higher : (i : ℕ) → i < d → (bit_at (w / 2) i == 1) ≡ p (a + 1 + i)
    higher i below =
        ap (λ b. b == 1) (sym (bit_at-suc w i))
        ∙ (shown (suc i) (omega arith) ∙ ap p (omega arith))

-- the fresh ones

module _ (words more mask : List ℕ) where
  pub fresh_few : (a n : ℕ) → fresh_count words more mask a n ≤ n
  unfolding fresh_count
  fresh_few a n =
      let h = count_by-le-length (is_fresh words more mask) (range_with_len a n) in
      let l = length-range_with_len a n in
      omega (arith, h, l)

  pub fresh_parts : (a n m : ℕ) → fresh_count words more mask a (n + m)
      ≡ fresh_count words more mask a n + fresh_count words more mask (a + n) m
  unfolding fresh_count
  fresh_parts a n m = count_parts (is_fresh words more mask) a n m

  pub fresh_none : (a n : ℕ)
      → ((i : ℕ) → a ≤ i → i < a + n → is_fresh words more mask i ≡ false)
      → fresh_count words more mask a n ≡ 0
  unfolding fresh_count
  fresh_none a n none = count_none (is_fresh words more mask) a n none

  -- one more
  fresh_more : (n k : ℕ) → cond (is_fresh words more mask n) 1 0 ≡ k
      → fresh_count words more mask 0 (n + 1) ≡ fresh_count words more mask 0 n + k
  unfolding fresh_count
  fresh_more n k here =
      let parts = count_parts (is_fresh words more mask) 0 n 1 in
      let at : count_by (is_fresh words more mask) (range_with_len (0 + n) 1)
      ≡ count_by (is_fresh words more mask) (range_with_len n 1)
      = ap (λ a. count_by (is_fresh words more mask) (range_with_len a 1)) {x = 0 + n} {y = n}
      (omega arith) in
      let last = count_cons (is_fresh words more mask) n 0 in
      omega (arith, parts, at, last, here)

  pub fresh_yes : (n : ℕ) → is_fresh words more mask n ≡ true
      → fresh_count words more mask 0 (n + 1) ≡ fresh_count words more mask 0 n + 1
  fresh_yes n is = fresh_more n 1 (ap (λ b. cond b 1 0) is)

  pub fresh_no : (n : ℕ) → is_fresh words more mask n ≡ false
      → fresh_count words more mask 0 (n + 1) ≡ fresh_count words more mask 0 n
  fresh_no n is = let h = fresh_more n 0 (ap (λ b. cond b 1 0) is) in omega (arith, h)

  pub fresh_same : (others : List ℕ) (a n : ℕ)
      → ((i : ℕ) → a ≤ i → i < a + n → is_set others i ≡ is_set words i)
      → fresh_count others more mask a n ≡ fresh_count words more mask a n
  unfolding fresh_count
  fresh_same others a n same =
      count_same (is_fresh others more mask) (is_fresh words more mask) a n
      (λ i low high. ap (λ b. (is_set more i && is_set mask i) && not b) (same i low high))

  pub fresh_ones : (k word : ℕ) → word < 2 ^ 64
      → ((i : ℕ) → i < 64 → (bit_at word i == 1) ≡ is_fresh words more mask (64 * k + i))
      → ones word ≡ fresh_count words more mask (64 * k) 64
  unfolding fresh_count
  fresh_ones k word fits shown = count_word (is_fresh words more mask) 64 (64 * k) word fits shown

-- a word with its fresh bits
pub or_there : (words more mask : List ℕ) (k fresh : ℕ) → k < length words
    → ((i : ℕ) → i < 64 → (bit_at fresh i == 1) ≡ is_fresh words more mask (64 * k + i))
    → (i : ℕ) → is_set (slice_set words k (bit_or (slice_index words k) fresh)) i
    ≡ (is_set words i || (i / 64 == k && is_fresh words more mask i))
or_there words more mask k fresh below shown i =
    elim (cases_eq (i / 64) k) [
      | inl same ↦
          ap (λ w. bit_at w (i % 64) == 1)
          (ap (slice_index (slice_set words k (bit_or (slice_index words k) fresh))) same
          ∙ get_or-set_same words k (bit_or (slice_index words k) fresh) 0 below)
          ∙ (ap (λ n. n == 1) (bit_at_or (slice_index words k) fresh (i % 64))
          ∙ (either (bit_at (slice_index words k) (i % 64)) (bit_at fresh (i % 64))
          (bit_cases _ _) (bit_cases _ _)
          ∙ (ap (λ b. (bit_at (slice_index words k) (i % 64) == 1) || b)
          (shown (i % 64) (omega arith) ∙ ap (is_fresh words more mask) (omega arith))
          ∙ (ap (λ m. (bit_at (slice_index words m) (i % 64) == 1) || is_fresh words more mask i)
          (sym same)
          ∙ sym (ap (λ b. is_set words i || (b && is_fresh words more mask i))
          (eq-eqb (i / 64) k same))))))
      | inr other ↦
          ap (λ w. bit_at w (i % 64) == 1)
          (get_or-set_other words k (i / 64) (bit_or (slice_index words k) fresh) 0 other)
          ∙ (sym (or-false (is_set words i))
          ∙ sym (ap (λ b. is_set words i || (b && is_fresh words more mask i))
          (ne_eqb (i / 64) k other)))
    ]
  where
    either : (a b : ℕ) → (a ≡ 0) ⊎ (a ≡ 1) → (b ≡ 0) ⊎ (b ≡ 1)
        → (max a b == 1) ≡ ((a == 1) || (b == 1))
    either a b (inl x) (inl y) = rw (x, y) refl
    either a b (inl x) (inr y) = rw (x, y) refl
    either a b (inr x) (inl y) = rw (x, y) refl
    either a b (inr x) (inr y) = rw (x, y) refl

-- words that are joined before one

module _ (old now more mask : List ℕ) (k : ℕ)
    (joined : (i : ℕ) → is_set now i
    ≡ (is_set old i || (nat_lt i (64 * k) && is_fresh old more mask i))) where
  -- those behind it are as they were
  pub still : (i : ℕ) → 64 * k ≤ i → is_set now i ≡ is_set old i
  still i behind =
      joined i
      ∙ (ap (λ b. is_set old i || (b && is_fresh old more mask i)) (le-ltb i (64 * k) behind)
      ∙ or-false (is_set old i))

  -- one word more
  pub one_more : (after : List ℕ)
      → ((i : ℕ) → is_set after i
      ≡ (is_set now i || (i / 64 == k && is_fresh now more mask i)))
      → (i : ℕ) → is_set after i
      ≡ (is_set old i || (nat_lt i (64 * (k + 1)) && is_fresh old more mask i))
  one_more after put i = elim (cases_lt i (64 * k)) [
    | inl before ↦
        put i
        ∙ (ap (λ b. is_set now i || (b && is_fresh now more mask i))
        (ne_eqb (i / 64) k (λ e. omega arith))
        ∙ (or-false (is_set now i)
        ∙ (joined i
        ∙ ap (λ b. is_set old i || (b && is_fresh old more mask i))
        (lt-ltb i (64 * k) before ∙ sym (lt-ltb i (64 * (k + 1)) (omega arith))))))
    | inr behind ↦ elim (cases_lt i (64 * (k + 1))) [
      | inl here ↦
          put i
          ∙ (ap (λ b. is_set now i || (b && is_fresh now more mask i))
          (eq-eqb (i / 64) k (omega arith))
          ∙ (ap (λ b. b || ((is_set more i && is_set mask i) && not b)) (still i behind)
          ∙ sym (ap (λ b. is_set old i || (b && is_fresh old more mask i))
          (lt-ltb i (64 * (k + 1)) here))))
      | inr far ↦
          put i
          ∙ (ap (λ b. is_set now i || (b && is_fresh now more mask i))
          (ne_eqb (i / 64) k (λ e. omega arith))
          ∙ (or-false (is_set now i)
          ∙ (still i behind
          ∙ (sym (or-false (is_set old i))
          ∙ sym (ap (λ b. is_set old i || (b && is_fresh old more mask i))
          (le-ltb i (64 * (k + 1)) far))))))
    ]
  ]

  -- and its fresh bits
  pub count_more : (count new : ℕ) → count ≡ fresh_count old more mask 0 (64 * k)
      → new ≡ fresh_count now more mask (64 * k) 64
      → count + new ≡ fresh_count old more mask 0 (64 * (k + 1))
  count_more count new before here =
      let parts = fresh_parts old more mask 0 (64 * k) 64 in
      let same = fresh_same old more mask now (64 * k) 64 (λ i low high. still i low) in
      let at : fresh_count old more mask (0 + 64 * k) 64 ≡ fresh_count old more mask (64 * k) 64
      = ap (λ a. fresh_count old more mask a 64) {x = 0 + 64 * k} {y = 64 * k} (omega arith) in
      let whole : fresh_count old more mask 0 (64 * (k + 1))
      ≡ fresh_count old more mask 0 (64 * k + 64)
      = ap (fresh_count old more mask 0) {x = 64 * (k + 1)} {y = 64 * k + 64} (omega arith) in
      omega (arith, before, here, parts, same, at, whole)

-- no word from this one on is in both
pub count_end : (old more mask : List ℕ) (k len count : ℕ) → k ≤ len
    → count ≡ fresh_count old more mask 0 (64 * k)
    → ((i : ℕ) → 64 * k ≤ i → i < 64 * len → is_fresh old more mask i ≡ false)
    → count ≡ fresh_count old more mask 0 (64 * len)
count_end old more mask k len count within before none =
    let parts = fresh_parts old more mask 0 (64 * k) (64 * len - 64 * k) in
    let rest = fresh_none old more mask (0 + 64 * k) (64 * len - 64 * k)
    (λ i low high. none i (omega arith) (omega arith)) in
    let whole : fresh_count old more mask 0 (64 * len)
    ≡ fresh_count old more mask 0 (64 * k + (64 * len - 64 * k))
    = ap (fresh_count old more mask 0) {x = 64 * len} {y = 64 * k + (64 * len - 64 * k)}
    (omega arith) in
    omega (arith, before, parts, rest, whole)

-- a row has no bit behind its last word
pub past : (words : List ℕ) (i : ℕ) → length words ≤ i / 64 → is_set words i ≡ false
past words i behind =
    ap (λ w. bit_at w (i % 64) == 1) (get_or_past words (i / 64) 0 behind)
    ∙ ap (λ n. n == 1) (bit_at-zero (i % 64))

pub none_of_more : (old more mask : List ℕ) (k : ℕ) → length more ≤ k
    → (i : ℕ) → 64 * k ≤ i → is_fresh old more mask i ≡ false
none_of_more old more mask k short i behind =
    ap (λ b. (b && is_set mask i) && not (is_set old i)) (past more i (omega arith))

pub none_of_mask : (old more mask : List ℕ) (k : ℕ) → length mask ≤ k
    → (i : ℕ) → 64 * k ≤ i → is_fresh old more mask i ≡ false
none_of_mask old more mask k short i behind =
    ap (λ b. (is_set more i && b) && not (is_set old i)) (past mask i (omega arith))
    ∙ none (is_set more i)
  where
    none : (b : Bool) → ((b && false) && not (is_set old i)) ≡ false
    none true = refl
    none false = refl

-- before the first word
pub none_joined : (old more mask : List ℕ) (i : ℕ)
    → is_set old i ≡ (is_set old i || (nat_lt i 0 && is_fresh old more mask i))
none_joined old more mask i =
    sym (or-false (is_set old i))
    ∙ sym (ap (λ b. is_set old i || (b && is_fresh old more mask i)) (le-ltb i 0 (omega arith)))
