-- Numbers as bytes: a number that is read is the number that was written, and the other way round.
use Rattle.std.proofs.Common.{◌≡◌, ℕ, zero, suc, ◌+◌, ◌*◌, ◌^◌, ◌<◌, ◌≤◌, List, [], ◌∷◌, ◌++◌}
use Rattle.std.proofs.Common.{length, get_or, take, drop, refl, sym, ap, ◌∙◌, arith, inl, inr}
use Rattle.std.specs.List.{flat_map, AllByRecursion}
use Rattle.std.proofs.lemmas.Bool.{cases_lt}
use Rattle.std.proofs.lemmas.List.{length-take, get_or-drop, get_or-take, get_or_past}
use Rattle.std.proofs.lemmas.Nat.{le_bytes_2, le_bytes_4, from_le_bytes-to_le_bytes_2}
use Rattle.std.proofs.lemmas.Nat.{from_le_bytes-to_le_bytes_4}
use Rattle.mrc_model.specs.Message.{word, half}
use Rattle.mrc_desc.specs.Descriptor.{half_at, word_at}
use Rattle.mrc_desc.specs.Reading.{words}

-- a list of bytes
abbrev pub IsBytes : List ℕ → Type 0
IsBytes bytes = (i : ℕ) → get_or bytes i 0 < 256

pub IsBytes-from : (bytes : List ℕ) → AllByRecursion (λ byte. byte < 2 ^ 8) bytes → IsBytes bytes
IsBytes-from [] each i = omega arith
IsBytes-from (b ∷ bytes) each zero = each.0
IsBytes-from (b ∷ bytes) each (suc i) = IsBytes-from bytes each.1 i

pub IsBytes-drop : (n : ℕ) (bytes : List ℕ) → IsBytes bytes → IsBytes (drop n bytes)
IsBytes-drop n bytes h i = rw get_or-drop (h (n + i))

pub IsBytes-take : (n : ℕ) (bytes : List ℕ) → IsBytes bytes → IsBytes (take n bytes)
IsBytes-take n bytes h i =
    elim (cases_lt i n) [
      | inl lt ↦ rw (get_or-take n bytes i 0 lt) (h i)
      | inr le ↦ rw (get_or_past (take n bytes) i 0 (omega (arith, length-take n bytes)))
          (omega arith)
    ]

-- four bytes are those of the number that they make
word_four : (a b c d : ℕ) → IsBytes (a ∷ b ∷ c ∷ d ∷ [])
    → word (word_at (a ∷ b ∷ c ∷ d ∷ [])) ≡ a ∷ b ∷ c ∷ d ∷ []
word_four a b c d fits = le_bytes_4 (a ∷ b ∷ c ∷ d ∷ []) _ refl fits refl

IsBytes-four : (a b c d : ℕ) (rest : List ℕ) → IsBytes (a ∷ b ∷ c ∷ d ∷ rest)
    → IsBytes (a ∷ b ∷ c ∷ d ∷ [])
IsBytes-four a b c d rest h zero = h 0
IsBytes-four a b c d rest h (suc zero) = h 1
IsBytes-four a b c d rest h (suc (suc zero)) = h 2
IsBytes-four a b c d rest h (suc (suc (suc zero))) = h 3
IsBytes-four a b c d rest h (suc (suc (suc (suc i)))) = omega arith

IsBytes-two : (a b : ℕ) (rest : List ℕ) → IsBytes (a ∷ b ∷ rest) → IsBytes (a ∷ b ∷ [])
IsBytes-two a b rest h zero = h 0
IsBytes-two a b rest h (suc zero) = h 1
IsBytes-two a b rest h (suc (suc i)) = omega arith

pub word_back : (bytes : List ℕ) → 4 ≤ length bytes → IsBytes bytes
    → bytes ≡ word (word_at bytes) ++ drop 4 bytes
word_back [] h fits = absurd (omega arith)
word_back (a ∷ []) h fits = absurd (omega arith)
word_back (a ∷ b ∷ []) h fits = absurd (omega arith)
word_back (a ∷ b ∷ c ∷ []) h fits = absurd (omega arith)
word_back (a ∷ b ∷ c ∷ d ∷ rest) h fits =
    ap (λ (x : List ℕ). x ++ rest) (sym (word_four a b c d (IsBytes-four a b c d rest fits)))

pub half_back : (bytes : List ℕ) → 2 ≤ length bytes → IsBytes bytes
    → bytes ≡ half (half_at bytes) ++ drop 2 bytes
half_back [] h fits = absurd (omega arith)
half_back (a ∷ []) h fits = absurd (omega arith)
half_back (a ∷ b ∷ rest) h fits =
    ap (λ (x : List ℕ). x ++ rest)
    (sym (le_bytes_2 (a ∷ b ∷ []) _ refl (IsBytes-two a b rest fits) refl))

pub word_again : (n : ℕ) (rest : List ℕ) → n < 2 ^ 32 → word_at (word n ++ rest) ≡ n
word_again n rest h = from_le_bytes-to_le_bytes_4 n h

pub half_again : (n : ℕ) (rest : List ℕ) → n < 2 ^ 16 → half_at (half n ++ rest) ≡ n
half_again n rest h = from_le_bytes-to_le_bytes_2 n h

pub word_fits : (bytes : List ℕ) → IsBytes bytes → word_at bytes < 2 ^ 32
word_fits bytes fits = omega (arith, fits 0, fits 1, fits 2, fits 3)

pub half_fits : (bytes : List ℕ) → IsBytes bytes → half_at bytes < 2 ^ 16
half_fits bytes fits = omega (arith, fits 0, fits 1)

-- words one after the other
pub words_back : (bytes : List ℕ) (n : ℕ) → length bytes ≡ 4 * n → IsBytes bytes
    → (bytes ≡ flat_map word (words bytes)) × (length (words bytes) ≡ n)
    × AllByRecursion (λ name. name < 2 ^ 32) (words bytes)
words_back [] n h fits = (refl, omega arith, tt)
words_back (a ∷ []) n h fits = absurd (omega arith)
words_back (a ∷ b ∷ []) n h fits = absurd (omega arith)
words_back (a ∷ b ∷ c ∷ []) n h fits = absurd (omega arith)
words_back (a ∷ b ∷ c ∷ d ∷ rest) zero h fits = absurd (omega arith)
words_back (a ∷ b ∷ c ∷ d ∷ rest) (suc n) h fits =
    let four = IsBytes-four a b c d rest fits in
    let more = words_back rest n (omega arith) (IsBytes-drop 4 (a ∷ b ∷ c ∷ d ∷ rest) fits) in (
      ap (λ (x : List ℕ). x ++ rest) (sym (word_four a b c d four))
          ∙ ap (λ (x : List ℕ). word (word_at (a ∷ b ∷ c ∷ d ∷ [])) ++ x) more.0,
      ap suc more.1,
      (word_fits (a ∷ b ∷ c ∷ d ∷ []) four, more.2),
    )

pub words_again : (names : List ℕ) → AllByRecursion (λ name. name < 2 ^ 32) names
    → words (flat_map word names) ≡ names
words_again [] fits = refl
words_again (n ∷ names) fits =
    ap (λ (x : ℕ). x ∷ words (flat_map word names)) (word_again n [] fits.0)
    ∙ ap (λ (x : List ℕ). n ∷ x) (words_again names fits.1)

pub length-words : (names : List ℕ) → length (flat_map word names) ≡ 4 * length names
length-words [] = refl
length-words (n ∷ names) = omega (arith, length-words names)
