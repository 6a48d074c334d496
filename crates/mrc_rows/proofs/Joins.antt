-- Rows of rights on classes of ports, and joining one.
use Rattle.std.proofs.Common.{◌≡◌, ℕ, ◌+◌, ◌<◌, ◌≤◌, ◌==◌, Bool, true, false, IsTrue}
use Rattle.std.proofs.Common.{refl, ap, sym, ◌∙◌, inl, inr, arith}
use Rattle.std.specs.Prelude.{◌||◌, ◌&&◌, nat_lt, not}
use Rattle.std.proofs.lemmas.Bool.{cases_eq, cases_order, cases_lt, cases_Bool, eq-eqb, ne_eqb}
use Rattle.std.proofs.lemmas.Bool.{lt-ltb, le-ltb, true≢false, false≢true}
use Rattle.std.proofs.Math.Bool.{and-false, or-false}
use Rattle.mrc_base.specs.declared.Fact.{Fact}
use Rattle.mrc_rows.specs.Limits.{limit_of_rows}
use Rattle.mrc_rows.specs.Rows.{is_within, row_of}
use Rattle.mrc_rows.proofs.Rows.{placed}

-- what is joined so far, at one fact

right_true : (a b : Bool) → b ≡ true → (a || b) ≡ true
right_true true b e = refl
right_true false b e = e

pub joined_more : (had has_now has_then same_row in_more : Bool) (p at place : ℕ)
    → has_now ≡ (had || (same_row && (in_more && nat_lt p at)))
    → has_then ≡ ((same_row && p == place) || has_now)
    → (same_row ≡ true → p ≡ place → in_more ≡ true)
    → (same_row ≡ true → at ≤ p → p < place → in_more ≡ true → IsTrue has_now)
    → at ≤ place → has_then ≡ (had || (same_row && (in_more && nat_lt p (place + 1))))
joined_more had has_now has_then false in_more p at place now put here between above = put ∙ now
joined_more had has_now has_then true false p at place now put here between above =
    elim (cases_eq p place) [
      | inl e ↦ absurd (false≢true (here refl e))
      | inr other ↦ put ∙ (ap (λ b. b || has_now) (ne_eqb p place other) ∙ now)
    ]
joined_more had has_now has_then true true p at place now put here between above =
    elim (cases_order p place) [
      | inl e ↦ put ∙ (ap (λ b. b || has_now) (eq-eqb p place e) ∙ sym (whole (omega arith)))
      | inr (inl low) ↦ put ∙ (ap (λ b. b || has_now) (ne_eqb p place (λ e. omega arith))
          ∙ elim (cases_lt p at) [
            | inl before ↦
                now
                ∙ (right_true had (nat_lt p at) (lt-ltb p at before) ∙ sym (whole (omega arith)))
            | inr behind ↦ between refl behind low refl ∙ sym (whole (omega arith))
          ])
      | inr (inr high) ↦ put ∙ (ap (λ b. b || has_now) (ne_eqb p place (λ e. omega arith))
          ∙ (now ∙ ap (λ b. had || b)
          (le-ltb p at (omega arith) ∙ sym (le-ltb p (place + 1) (omega arith)))))
    ]
  where
    whole : p < place + 1 → (had || nat_lt p (place + 1)) ≡ true
    whole h = right_true had (nat_lt p (place + 1)) (lt-ltb p (place + 1) h)

-- the facts of a row, by the bits of its words

twice : (b : Bool) → (b && b) ≡ b
twice true = refl
twice false = refl

pub one_row : (within of here word there : Bool) → (within ≡ true → of ≡ here)
    → (of ≡ true → word ≡ (within && there))
    → (of && (word && word)) ≡ ((within && here) && there)
one_row true true here word there same shown =
    twice word ∙ (shown refl ∙ ap (λ b. b && there) (same refl))
one_row true false here word there same shown = ap (λ b. b && there) (same refl)
one_row false true here word there same shown = ap (λ b. b && word) (shown refl)
one_row false false here word there same shown = refl

-- no bit of the row is fresh, so nothing is joined
pub nothing_joined : (had of both within set : Bool) → (of ≡ true → set ≡ (within && had))
    → (both && not set) ≡ false
    → had ≡ (had || (of && both))
nothing_joined true of both within set shown none = refl
nothing_joined false false both within set shown none = refl
nothing_joined false true false within set shown none = refl
nothing_joined false true true within set shown none =
    absurd (true≢false (sym (fresh set (shown refl ∙ and-false within)) ∙ none))
  where
    fresh : (set : Bool) → set ≡ false → (true && not set) ≡ true
    fresh set e = rw e refl

-- the rows before one that are joined

-- the fact has a place in a row before the one of this number
abbrev pub is_kept_before : ℕ → Fact → Bool
is_kept_before number g = is_within g && nat_lt (row_of g) number

pub none_before : (g : Fact) (had there : Bool) → had ≡ (had || (is_kept_before 0 g && there))
none_before g had there =
    sym (ap (λ b. had || ((is_within g && b) && there)) (le-ltb (row_of g) 0 (omega arith))
    ∙ (ap (λ b. had || (b && there)) (and-false (is_within g)) ∙ or-false had))

pub next_below : (p n : ℕ) → (p ≡ n → ⊥) → nat_lt p (n + 1) ≡ nat_lt p n
next_below p n other = elim (cases_lt p n) [
  | inl low ↦ lt-ltb p (n + 1) (omega arith) ∙ sym (lt-ltb p n low)
  | inr high ↦ le-ltb p (n + 1) (omega (arith, high, other)) ∙ sym (le-ltb p n high)
]

-- a fact of this row, and one of another row

one_there : (had within there : Bool)
    → ((had || ((within && false) && there)) || ((within && true) && there))
    ≡ (had || ((within && true) && there))
one_there true within there = refl
one_there false true there = refl
one_there false false there = refl

none_there : (has_now within there : Bool)
    → (has_now || ((within && false) && there)) ≡ has_now
none_there true within there = refl
none_there false true there = refl
none_there false false there = refl

pub row_before : (g : Fact) (had has_now has_then there : Bool) (number : ℕ)
    → has_now ≡ (had || (is_kept_before number g && there))
    → has_then ≡ (has_now || ((is_within g && row_of g == number) && there))
    → has_then ≡ (had || (is_kept_before (number + 1) g && there))
row_before g had has_now has_then there number now put = elim (cases_eq (row_of g) number) [
  | inl e ↦
      put ∙ (ap (λ b. has_now || ((is_within g && b) && there)) (eq-eqb (row_of g) number e)
      ∙ (ap (λ b. b || ((is_within g && true) && there))
      (now ∙ ap (λ b. had || ((is_within g && b) && there))
      (le-ltb (row_of g) number (omega (arith, e))))
      ∙ (one_there had (is_within g) there
      ∙ sym (ap (λ b. had || ((is_within g && b) && there))
      (lt-ltb (row_of g) (number + 1) (omega (arith, e)))))))
  | inr other ↦
      put ∙ (ap (λ b. has_now || ((is_within g && b) && there)) (ne_eqb (row_of g) number other)
      ∙ (none_there has_now (is_within g) there
      ∙ (now ∙ ap (λ b. had || ((is_within g && b) && there))
      (sym (next_below (row_of g) number other)))))
]

pub rows_joined : (g : Fact) (had has_now there : Bool) (number : ℕ) → limit_of_rows ≤ number
    → has_now ≡ (had || (is_kept_before number g && there))
    → has_now ≡ (had || (is_within g && there))
rows_joined g had has_now there number all now = now ∙ ap (λ b. had || (b && there)) all_kept
  where
    all_kept : is_kept_before number g ≡ is_within g
    all_kept = elim (cases_Bool (is_within g)) [
      | inl within ↦
          let below = (placed g within).row in
          rw within (lt-ltb (row_of g) number (omega arith))
      | inr outside ↦ rw outside refl
    ]
