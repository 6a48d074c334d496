-- Tasks by their names: where each has a name and no two have the same, a name's number has that
-- name.
use Rattle.std.proofs.Common.{◌≡◌, ◌⊎◌, ℕ, zero, suc, ◌<◌, ◌≤◌, true, false, List, []}
use Rattle.std.proofs.Common.{◌∷◌, ◌++◌, length}
use Rattle.std.proofs.Common.{Option, Some, None, refl, sym, subst, ap, ◌∙◌, inl, inr, arith}
use Rattle.std.proofs.Common.{nat_lt, if◌then◌else◌, get_or}
use Rattle.std.specs.Prelude.{bytes_eq, is_some, slice_get, IsTrue}
use Rattle.std.specs.List.{position_or_len}
use Rattle.std.proofs.lemmas.Bool.{ltb-false}
use Rattle.std.proofs.lemmas.Slice.Eq.{bytes_eq-Decides}
use Rattle.std.proofs.lemmas.List.Quantifiers.{position-Some}
use Rattle.std.proofs.lemmas.Option.{slice_get-get_or}
use Rattle.mrc_wiring_text.specs.Names.{is_name}
use Rattle.mrc_wiring.specs.Names.{AreNames, number_of}

-- what is read of a list with one more name at its end
pushed : (names : List (List ℕ)) (name : List ℕ) (t : ℕ) (read : List ℕ)
    → slice_get (names ++ name ∷ []) t ≡ Some read
    → (slice_get names t ≡ Some read) ⊎ ((t ≡ length names) × (name ≡ read))
pushed [] name zero read e = inr (refl, cc)
pushed [] name (suc t) read e = cc
pushed (x ∷ xs) name zero read e = inl e
pushed (x ∷ xs) name (suc t) read e = elim (pushed xs name t read e) [
  | inl h ↦ inl h
  | inr h ↦ inr (omega (arith, h.0), h.1)
]

pub read_within : (names : List (List ℕ)) (t : ℕ) (name : List ℕ) → slice_get names t ≡ Some name
    → t < length names
read_within [] t name e = cc
read_within (x ∷ xs) zero name e = omega arith
read_within (x ∷ xs) (suc t) name e = let rest = read_within xs t name e in omega arith

-- the search for a name stops at it at the latest
stops_by : (names : List (List ℕ)) (t : ℕ) (name : List ℕ) → slice_get names t ≡ Some name
    → position_or_len (bytes_eq name) names ≤ t
stops_by [] t name e = cc
stops_by (x ∷ xs) zero name e =
    let same : name ≡ x = cc in
    let equal : bytes_eq name x ≡ true = (bytes_eq-Decides name x).1 same in
    rw equal omega arith
stops_by (x ∷ xs) (suc t) name e =
    elim (bytes_eq name x) as (λ b. bytes_eq name x ≡ b → position_or_len (bytes_eq name) (x ∷ xs)
    ≤ suc t) [
      | true ↦ λ is. rw is omega arith
      | false ↦ λ is. let rest = stops_by xs t name e in rw is omega arith
    ] refl

-- the number of a name is that of a task that has it
pub named_at : (names : List (List ℕ)) (name : List ℕ) (t : ℕ) → number_of names name ≡ Some t
    → slice_get names t ≡ Some name
named_at names name t e =
    let found = position-Some (bytes_eq name) names t [] e in
    let same : name ≡ get_or names t [] = (bytes_eq-Decides name (get_or names t [])).0 found.1 in
    slice_get-get_or names t [] found.0 ∙ ap Some (sym same)

-- the search for a task's name finds a task
found_at : (names : List (List ℕ)) (name : List ℕ) (t : ℕ) → slice_get names t ≡ Some name
    → number_of names name ≡ Some (position_or_len (bytes_eq name) names)
found_at names name t e =
    let p = position_or_len (bytes_eq name) names in
    let low : p ≤ t = stops_by names t name e in
    let high : t < length names = read_within names t name e in
    elim (nat_lt p (length names)) as (λ b. nat_lt p (length names) ≡ b → (if b then Some p else
    None) ≡ Some p) [
      | true ↦ λ is. refl
      | false ↦ λ is. let bad = ltb-false p (length names) is in absurd (omega arith)
    ] refl

-- the number of a task's name is the task's
pub number_at : (names : List (List ℕ)) (name : List ℕ) (t : ℕ) → AreNames names
    → slice_get names t ≡ Some name
    → number_of names name ≡ Some t
number_at names name t are e =
    let found = found_at names name t e in
    let same = are.distinct _ t name (named_at names name _ found) e in
    found ∙ ap Some same

-- a name that no task has
unnamed : (names : List (List ℕ)) (name : List ℕ) (t : ℕ) → number_of names name ≡ None
    → slice_get names t ≡ Some name → ⊥
unnamed names name t none e = let found = found_at names name t e in cc

no_number : (o : Option ℕ) → is_some o ≡ false → o ≡ None
no_number None e = refl
no_number (Some n) e = cc

pub no_names : AreNames []
no_names = record { each = λ t name e. cc; distinct = λ t u name e f. cc }

-- a new name keeps that each task has a name, and that no two have the same
pub name_pushed : (names : List (List ℕ)) (name : List ℕ) → AreNames names → IsTrue (is_name name)
    → is_some (number_of names name) ≡ false → AreNames (names ++ name ∷ [])
name_pushed names name are is new =
    let none : number_of names name ≡ None = no_number _ new in
    record {
      each = λ t read e. elim (pushed names name t read e) [
        | inl h ↦ are.each t read h
        | inr h ↦ subst (λ n. IsTrue (is_name n)) h.1 is
      ];
      distinct = λ t u read e f. elim (pushed names name t read e) [
        | inl h ↦ elim (pushed names name u read f) [
          | inl k ↦ are.distinct t u read h k
          | inr k ↦ absurd (unnamed names name t none (h ∙ ap Some (sym k.1)))
        ]
        | inr h ↦ elim (pushed names name u read f) [
          | inl k ↦ absurd (unnamed names name u none (k ∙ ap Some (sym h.1)))
          | inr k ↦ h.0 ∙ sym k.0
        ]
      ];
    }
