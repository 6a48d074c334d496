-- How a text falls into its first line and the lines after it.
use Rattle.std.proofs.Common.{◌≡◌, ℕ, suc, ◌+◌, ◌-◌, ◌<◌, ◌≤◌, Bool, true, false, cond, eqb, ltb}
use Rattle.std.proofs.Common.{not, List, [], ◌∷◌, length, take, drop, Some, None, unwrap_or, refl}
use Rattle.std.proofs.Common.{ap, ◌∙◌, arith, inl, inr}
use Rattle.std.specs.List.{position_or_len, before_first, after_first, onto_first}
use Rattle.std.proofs.lemmas.Bool.{cases_Bool, cases_lt, lt-ltb, le-ltb}
use Rattle.std.proofs.lemmas.List.{take_rest, take_all, drop_all}
use Rattle.std.proofs.lemmas.List.Sums.{prefix_len-le-length}
use Rattle.mrc_wiring_text.specs.Lexis.{lines}

abbrev pub is_feed : ℕ → Bool
is_feed b = eqb b 10

-- the place that a search finds, or the length
pub place_found : (p : ℕ → Bool) (xs : List ℕ)
    → unwrap_or (cond (ltb (position_or_len p xs) (length xs)) (Some (position_or_len p xs)) None)
    (length xs) ≡ position_or_len p xs
place_found p xs =
    elim (cases_lt (position_or_len p xs) (length xs)) [
      | inl lt ↦ rw (lt-ltb _ _ lt) refl
      | inr le ↦ rw (le-ltb _ _ le) (omega (arith, prefix_len-le-length (λ x. not (p x)) xs))
    ]

-- a text cut at its first line feed
abbrev CutsFirst : List ℕ → Type 0
CutsFirst bs = lines bs ≡ before_first is_feed bs ∷ lines (after_first is_feed bs)

cuts_at_feed : (b : ℕ) (bs : List ℕ) → eqb b 10 ≡ true → CutsFirst (b ∷ bs)
cuts_at_feed b bs e = rw e refl

cuts_last : (b : ℕ) → eqb b 10 ≡ false → CutsFirst (b ∷ [])
cuts_last b e = rw e refl

shift : (b : ℕ) (xs : List ℕ) (k : ℕ)
    → (b ∷ take k xs) ∷ lines (drop (k + 1) xs) ≡ take (1 + k) (b ∷ xs) ∷ lines
    (drop (1 + k + 1) (b ∷ xs))
shift b xs k =
    let one : 1 + k ≡ suc k = omega arith in
    let two : 1 + k + 1 ≡ suc (k + 1) = omega arith in
    rw (two, one) refl

cuts_later : (b d : ℕ) (ds : List ℕ)
    → eqb b 10 ≡ false
    → CutsFirst (d ∷ ds)
    → CutsFirst (b ∷ d ∷ ds)
cuts_later b d ds e ih =
    rw e (ap (onto_first b) ih ∙ shift b (d ∷ ds) (position_or_len is_feed (d ∷ ds)))

pub lines-cons : (b : ℕ) (bs : List ℕ) → CutsFirst (b ∷ bs)
lines-cons b [] =
    elim (cases_Bool (eqb b 10)) [ inl e ↦ cuts_at_feed b [] e | inr e ↦ cuts_last b e ]
lines-cons b (d ∷ ds) =
    elim (cases_Bool (eqb b 10)) [
      | inl e ↦ cuts_at_feed b (d ∷ ds) e
      | inr e ↦ cuts_later b d ds e
          (lines-cons d ds)
    ]

lines_first : (bs : List ℕ) → 0 < length bs → CutsFirst bs
lines_first [] h = absurd (omega arith)
lines_first (b ∷ bs) h = lines-cons b bs

-- the same, where a line feed was found at a place, and where none was
pub lines_at : (bs : List ℕ) (at : ℕ)
    → 0 < length bs
    → at ≡ position_or_len is_feed bs
    → lines bs ≡ take at bs ∷ lines (take (length bs - (at + 1)) (drop (at + 1) bs))
lines_at bs at h e = rw (take_rest, e) (lines_first bs h)

pub lines_last : (bs : List ℕ) (at : ℕ)
    → 0 < length bs
    → at ≡ position_or_len is_feed bs
    → length bs ≤ at
    → lines bs ≡ bs ∷ []
lines_last bs at h e past =
    let all : before_first is_feed bs ≡ bs = take_all (position_or_len is_feed bs) bs (omega arith)
    in
    let none : after_first is_feed bs ≡ [] = drop_all (position_or_len is_feed bs + 1) bs
    (omega arith) in
    lines_first bs h ∙ rw (all, none) refl
