-- Where the row of a task and a kind stands among ascending rows: behind those that come before it,
-- and nowhere else.
use Rattle.std.proofs.Common.{◌≡◌, ℕ, zero, suc, ◌+◌, ◌<◌, ◌≤◌, Bool, true, false, cond, not}
use Rattle.std.proofs.Common.{List, [], ◌∷◌, length, Option, Some, None, refl, ap, sym, ◌∙◌, arith}
use Rattle.std.proofs.Common.{◌&&◌, ◌||◌, ◌==◌, inl, inr}
use Rattle.std.specs.Prelude.{slice_get, position, is_some, nat_lt}
use Rattle.std.specs.List.{list_any, AllByRecursion, position_or_len, slice_index_or}
use Rattle.std.specs.List.Sorted.{IsPartitionPoint, IsPartitionedBy}
use Rattle.std.proofs.lemmas.Bool.{cases_Bool, and_parts, eqb-true, lt-ltb, le-ltb, false≢true}
use Rattle.std.proofs.Math.Bool.{or-false}
use Rattle.mrc_wiring.specs.declared.births.BirthRow.{BirthRow}
use Rattle.mrc_wiring.specs.Births.{is_row, comes_before, is_said, has_row, has_said, new_row}
use Rattle.mrc_wiring.specs.RowPlaces.{place_of, is_there, stands_at, is_said_there, said_at}
use Rattle.mrc_wiring.specs.Births.{AreAscending}
use Rattle.mrc_wiring.proofs.BirthLaws.{IsBefore, differs, before_is, before_then, before_all}
use Rattle.mrc_wiring.proofs.BirthLaws.{same_before, later_row}

-- ---- found by halves

-- a property of each row, at its place
each_at : (P : BirthRow → Type 0) (rows : List BirthRow) (i : ℕ) (d : BirthRow)
    → AllByRecursion P rows
    → i < length rows
    → P (slice_index_or rows i d)
each_at P [] i d all h = absurd (omega arith)
each_at P (row ∷ rows) zero d all h = all.0
each_at P (row ∷ rows) (suc i) d all h = each_at P rows i d all.1 (omega arith)

-- the rows that come before stand in front
pub rows_parted : (t kind : ℕ) (rows : List BirthRow)
    → AreAscending rows
    → IsPartitionedBy (comes_before t kind) rows
rows_parted t kind [] up i j d le h before = absurd (omega arith)
rows_parted t kind (row ∷ rows) up zero zero d le h before = before
rows_parted t kind (row ∷ rows) up zero (suc j) d le h before =
    before_then row (slice_index_or rows j d) (new_row t kind)
    (each_at (IsBefore row) rows j d up.0 (omega arith)) before
rows_parted t kind (row ∷ rows) up (suc i) zero d le h before = absurd (omega arith)
rows_parted t kind (row ∷ rows) up (suc i) (suc j) d le h before =
    rows_parted t kind rows up.1 i j d (omega arith) (omega arith) before

-- where they end is the place
pub row_place : (t kind : ℕ) (rows : List BirthRow) (i : ℕ)
    → i ≤ length rows
    → IsPartitionPoint (λ (row : BirthRow). comes_before t kind row ≡ true)
    (λ (row : BirthRow). comes_before t kind row ≡ false) rows i
    → i ≡ place_of rows t kind
row_place t kind [] i h p = omega arith
row_place t kind (row ∷ rows) zero h p =
    sym (ap (λ b. cond (not (not b)) (1 + place_of rows t kind) 0)
    (p.1 0 row (omega arith) (omega arith)))
row_place t kind (row ∷ rows) (suc i) h p =
    let rest : i ≡ place_of rows t kind = row_place t kind rows i (omega arith) (
      (λ n d a b. p.0 (suc n) d (omega arith) (omega arith)),
      (λ n d a b. p.1 (suc n) d (omega arith) (omega arith)),
    ) in
    let next : suc i ≡ 1 + place_of rows t kind = omega arith in
    next ∙ sym (ap (λ b. cond (not (not b)) (1 + place_of rows t kind) 0)
    (p.0 0 row (omega arith) (omega arith)))

-- ---- what stands there

-- a test of what stands there, and false where nothing does
abbrev pub passes : (BirthRow → Bool) → Option BirthRow → Bool
passes test None = false
passes test (Some row) = test row

-- a row that comes before is not the row
not_before : (row : BirthRow) (t kind : ℕ)
    → comes_before t kind row ≡ true
    → is_row t kind row ≡ false
not_before row t kind before = differs row (new_row t kind) before

-- nor is one that comes behind
not_behind : (row : BirthRow) (t kind : ℕ)
    → IsBefore (new_row t kind) row
    → is_row t kind row ≡ false
not_behind row t kind behind =
    elim (cases_Bool (is_row t kind row)) [
      | inr other ↦ other
      | inl is ↦
          let p = and_parts (row.task == t) (row.kind == kind) is in
          let same : row.task ≡ t = eqb-true row.task t p.0 in
          let alike : row.kind ≡ kind = eqb-true row.kind kind p.1 in
          absurd (elim (before_is (new_row t kind) row behind) [
            | inl less ↦ let low : t < row.task = less in omega arith
            | inr both ↦ let low : kind < row.kind = both.1 in omega arith
          ])
    ]

-- a test that no other row passes fails at all that comes behind
none_behind : (test : BirthRow → Bool) (t kind : ℕ) (rows : List BirthRow)
    → ((row : BirthRow) → is_row t kind row ≡ false → test row ≡ false)
    → AllByRecursion (IsBefore (new_row t kind)) rows
    → list_any test rows ≡ false
none_behind test t kind [] fails behind = refl
none_behind test t kind (row ∷ rows) fails behind =
    ap (λ b. b || list_any test rows) (fails row (not_behind row t kind behind.0))
    ∙ none_behind test t kind rows fails behind.1

-- what stands behind the first row that does not come before comes behind
all_behind : (t kind : ℕ) (row : BirthRow) (rows : List BirthRow)
    → comes_before t kind row ≡ false
    → AllByRecursion (IsBefore row) rows
    → AllByRecursion (IsBefore (new_row t kind)) rows
all_behind t kind row rows past behind =
    elim (cases_Bool (is_row t kind row)) [
      | inl is ↦ same_before t kind row rows [] is behind
      | inr other ↦
          before_all (new_row t kind) row rows (later_row t kind row past other []) behind
    ]

-- a test that no other row passes is one of what stands at the place
pub any_placed : (test : BirthRow → Bool) (t kind : ℕ) (rows : List BirthRow)
    → AreAscending rows
    → ((row : BirthRow) → is_row t kind row ≡ false → test row ≡ false)
    → list_any test rows ≡ passes test (slice_get rows (place_of rows t kind))
any_placed test t kind [] up fails = refl
any_placed test t kind (row ∷ rows) up fails =
    elim (comes_before t kind row) as (λ b. comes_before t kind row ≡ b
    → (test row || list_any test rows)
    ≡ passes test (slice_get (row ∷ rows) (cond (not (not b)) (1 + place_of rows t kind) 0))) [
      | true ↦ λ before.
          let one : suc (place_of rows t kind) ≡ 1 + place_of rows t kind = omega arith in
          ap (λ b. b || list_any test rows) (fails row (not_before row t kind before))
          ∙ any_placed test t kind rows up.1 fails
          ∙ ap (λ (n : ℕ). passes test (slice_get (row ∷ rows) n)) one
      | false ↦ λ past.
          ap (λ b. test row || b)
          (none_behind test t kind rows fails (all_behind t kind row rows past up.0))
          ∙ or-false (test row)
    ] refl

there_passes : (t kind : ℕ) (o : Option BirthRow) → passes (is_row t kind) o ≡ is_there t kind o
there_passes t kind None = refl
there_passes t kind (Some row) = refl

said_passes : (t kind : ℕ) (o : Option BirthRow)
    → passes (is_said t kind) o ≡ is_said_there t kind o
said_passes t kind None = refl
said_passes t kind (Some row) = refl

-- there is a row exactly where it stands at the place
pub has_placed : (t kind : ℕ) (rows : List BirthRow)
    → AreAscending rows
    → has_row rows t kind ≡ stands_at rows (place_of rows t kind) t kind
has_placed t kind rows up =
    any_placed (is_row t kind) t kind rows up (λ row other. other)
    ∙ there_passes t kind (slice_get rows (place_of rows t kind))

-- a line says it exactly where it is said at the place
pub said_placed : (t kind : ℕ) (rows : List BirthRow)
    → AreAscending rows
    → has_said rows t kind ≡ said_at rows (place_of rows t kind) t kind
said_placed t kind rows up =
    any_placed (is_said t kind) t kind rows up
    (λ row other. ap (λ b. b && is_some row.accepts) other)
    ∙ said_passes t kind (slice_get rows (place_of rows t kind))

-- ---- the place as that of the first row that is the row

pub stands_within : (rows : List BirthRow) (i t kind : ℕ)
    → stands_at rows i t kind ≡ true
    → i < length rows
stands_within [] i t kind at = absurd (false≢true at)
stands_within (row ∷ rows) zero t kind at = omega arith
stands_within (row ∷ rows) (suc i) t kind at =
    let rest = stands_within rows i t kind at in omega arith

place_stood : (t kind : ℕ) (rows : List BirthRow)
    → AreAscending rows
    → stands_at rows (place_of rows t kind) t kind ≡ true
    → position_or_len (is_row t kind) rows ≡ place_of rows t kind
place_stood t kind [] up at = absurd (false≢true at)
place_stood t kind (row ∷ rows) up at =
    elim (comes_before t kind row) as (λ b. comes_before t kind row ≡ b
    → stands_at (row ∷ rows) (cond (not (not b)) (1 + place_of rows t kind) 0) t kind ≡ true
    → cond (not (is_row t kind row)) (1 + position_or_len (is_row t kind) rows) 0
    ≡ cond (not (not b)) (1 + place_of rows t kind) 0) [
      | true ↦ λ before here.
          let one : 1 + place_of rows t kind ≡ suc (place_of rows t kind) = omega arith in
          let there = sym (ap (λ (n : ℕ). stands_at (row ∷ rows) n t kind) one) ∙ here in
          ap (λ b. cond (not b) (1 + position_or_len (is_row t kind) rows) 0)
          (not_before row t kind before)
          ∙ ap (λ (n : ℕ). 1 + n) (place_stood t kind rows up.1 there)
      | false ↦ λ past here.
          ap (λ b. cond (not b) (1 + position_or_len (is_row t kind) rows) 0) here
    ] refl at

none_len : (test : BirthRow → Bool) (rows : List BirthRow)
    → list_any test rows ≡ false
    → position_or_len test rows ≡ length rows
none_len test [] none = refl
none_len test (row ∷ rows) none =
    elim (test row) as (λ b. (b || list_any test rows) ≡ false
    → cond (not b) (1 + position_or_len test rows) 0 ≡ suc (length rows)) [
      | true ↦ λ e. absurd (false≢true (sym e))
      | false ↦ λ e. let rest = none_len test rows e in omega arith
    ] none

-- the first row that is the row is the one at the place
pub position_placed : (t kind : ℕ) (rows : List BirthRow) (is : Bool)
    → AreAscending rows
    → stands_at rows (place_of rows t kind) t kind ≡ is
    → position (is_row t kind) rows ≡ cond is (Some (place_of rows t kind)) None
position_placed t kind rows true up at =
    let same = place_stood t kind rows up at in
    let less = stands_within rows (place_of rows t kind) t kind at in
    let within : nat_lt (position_or_len (is_row t kind) rows) (length rows) ≡ true =
    lt-ltb (position_or_len (is_row t kind) rows) (length rows) (omega arith) in
    ap (λ b. cond b (Some (position_or_len (is_row t kind) rows)) None) within
    ∙ ap (λ (n : ℕ). Some n) same
position_placed t kind rows false up at =
    let none = none_len (is_row t kind) rows (has_placed t kind rows up ∙ at) in
    ap (λ b. cond b (Some (position_or_len (is_row t kind) rows)) None)
    (le-ltb (position_or_len (is_row t kind) rows) (length rows) (omega arith))
