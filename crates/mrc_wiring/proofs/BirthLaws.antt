-- The births of tasks by their kinds: which class is whose, how many there are, and one more row.
use Rattle.std.proofs.Common.{◌≡◌, ℕ, zero, suc, ◌+◌, ◌*◌, ◌<◌, ◌≤◌, Bool, true, false, cond}
use Rattle.std.proofs.Common.{List, [], ◌∷◌, ◌++◌, length, map, Option, Some, None, refl, ap, sym}
use Rattle.std.proofs.Common.{◌∙◌}
use Rattle.std.proofs.Common.{arith, inl, inr, subst, set, ◌&&◌, ◌||◌, ◌==◌, not}
use Rattle.std.proofs.Common.{ltb, ◌⊎◌}
use Rattle.std.specs.Prelude.{slice_get, position, IsTrue, nat_lt}
use Rattle.std.specs.List.{list_any, AllByRecursion, position_or_len, insert}
use Rattle.std.specs.Option.{option_map}
use Rattle.std.proofs.lemmas.Bool.{cases_Bool, and_parts, and_from, eqb-true, eqb-false, eq-eqb}
use Rattle.std.proofs.lemmas.Bool.{ltb-true, ltb-false, lt-ltb, le-ltb, false≢true, cases_lt}
use Rattle.std.proofs.lemmas.Option.{none-some, same_Some}
use Rattle.std.proofs.lemmas.List.Folds.{list_any-append}
use Rattle.std.proofs.Math.Bool.{or-true}
use Rattle.mrc_model.specs.declared.LabelItem.{LabelItem}
use Rattle.mrc_model.specs.Wiring.{births_from, births_class}
use Rattle.mrc_wiring.specs.declared.births.BirthRow.{BirthRow}
use Rattle.mrc_wiring.specs.Births.{is_row, comes_before, has_row, new_row, said_row}
use Rattle.mrc_wiring.specs.Births.{put_row, pair_of, AreAscending}
use Rattle.mrc_wiring.specs.RowPlaces.{place_of, stands_at}
use Rattle.mrc_wiring.specs.Births.{AreBirths, AreKinds}
use Rattle.mrc_wiring.specs.declared.names.ClassKind.{ClassKind}
use Rattle.mrc_wiring.specs.declared.names.ClassKind.TheVariants.{Births}
use Rattle.mrc_wiring.specs.Table.{Table, wiring_of, kind_class}

-- the row comes before the other
abbrev pub IsBefore : BirthRow → BirthRow → Type 0
IsBefore row later = IsTrue (comes_before later.task later.kind row)

-- ---- which class is whose

-- the births of task u and this kind are those of row i
pub record IsRowOf (u kind i : ℕ) (rows : List BirthRow) : Type 0 where
  pub row : BirthRow
  pub there : slice_get rows i ≡ Some row
  pub task : row.task ≡ u
  pub kind_is : row.kind ≡ kind

births_cons : (c u kind : ℕ) (row : BirthRow) (rows : List BirthRow) (d : ℕ)
    → births_from c u kind (map pair_of (row ∷ rows)) ≡ Some d
    → ((c ≡ d) × (row.task ≡ u) × (row.kind ≡ kind))
    ⊎ (births_from (c + 1) u kind (map pair_of rows) ≡ Some d)
births_cons c u kind row rows d e =
    elim (row.task == u && row.kind == kind) as (λ b. (row.task == u && row.kind == kind) ≡ b
    → cond b (Some c) (births_from (c + 1) u kind (map pair_of rows)) ≡ Some d
    → ((c ≡ d) × (row.task ≡ u) × (row.kind ≡ kind))
    ⊎ (births_from (c + 1) u kind (map pair_of rows) ≡ Some d)) [
      | true ↦ λ is found.
          let p = and_parts (row.task == u) (row.kind == kind) is in
          inl (same_Some _ _ found, eqb-true _ _ p.0, eqb-true _ _ p.1)
      | false ↦ λ is found. inr found
    ] refl e

-- a class of births is that of a row
pub births_are : (c u kind : ℕ) (rows : List BirthRow) (d : ℕ)
    → births_from c u kind (map pair_of rows) ≡ Some d
    → (i : ℕ) × (d ≡ c + i) × IsRowOf u kind i rows
births_are c u kind [] d e = absurd (none-some d e)
births_are c u kind (row ∷ rows) d e =
    elim (births_cons c u kind row rows d e) [
      | inl (same, task, kind_is) ↦ (
        0,
        sym same ∙ omega arith,
        record { row = row; there = refl; task = task; kind_is = kind_is },
      )
      | inr found ↦
          let rest = births_are (c + 1) u kind rows d found in
          let at = rest.1 in
          let is = rest.2 in (
            suc rest.0,
            omega arith,
            record { row = is.row; there = is.there; task = is.task; kind_is = is.kind_is },
          )
    ]

shifted : (c n count : ℕ)
    → option_map (λ (i : ℕ). c + 1 + i) (cond (ltb n count) (Some n) None)
    ≡ option_map (λ (i : ℕ). c + i) (cond (ltb (1 + n) (suc count)) (Some (1 + n)) None)
shifted c n count =
    elim (cases_Bool (ltb n count)) [
      | inl less ↦
          let more : ltb (1 + n) (suc count) ≡ true = lt-ltb (1 + n) (suc count)
          (omega (arith, ltb-true n count less)) in
          rw (less, more) (ap (λ (k : ℕ). Some k) (omega arith))
      | inr past ↦
          let more : ltb (1 + n) (suc count) ≡ false = le-ltb (1 + n) (suc count)
          (omega (arith, ltb-false n count past)) in
          rw (past, more) refl
    ]

births_at_cons : (c u kind : ℕ) (rows : List BirthRow) (b : Bool)
    → births_from (c + 1) u kind (map pair_of rows)
    ≡ option_map (λ (i : ℕ). c + 1 + i) (position (is_row u kind) rows)
    → cond b (Some c) (births_from (c + 1) u kind (map pair_of rows))
    ≡ option_map (λ (i : ℕ). c + i)
    (cond (ltb (cond (not b) (1 + position_or_len (is_row u kind) rows) 0) (suc (length rows)))
    (Some (cond (not b) (1 + position_or_len (is_row u kind) rows) 0)) None)
births_at_cons c u kind rows true rest =
    rw (lt-ltb 0 (suc (length rows)) (omega arith)) (ap (λ (k : ℕ). Some k) (omega arith))
births_at_cons c u kind rows false rest =
    rest ∙ shifted c (position_or_len (is_row u kind) rows) (length rows)

-- it is so by the place of the row
pub births_at : (c u kind : ℕ) (rows : List BirthRow)
    → births_from c u kind (map pair_of rows)
    ≡ option_map (λ (i : ℕ). c + i) (position (is_row u kind) rows)
births_at c u kind [] = refl
births_at c u kind (row ∷ rows) =
    births_at_cons c u kind rows (is_row u kind row) (births_at (c + 1) u kind rows)

-- a row before others is none of them
pub differs : (row later : BirthRow) → IsBefore row later
    → (row.task == later.task && row.kind == later.kind) ≡ false
differs row later before =
    elim (cases_Bool (row.task == later.task && row.kind == later.kind)) [
      | inr is ↦ is
      | inl is ↦
          let p = and_parts (row.task == later.task) (row.kind == later.kind) is in
          let t : row.task ≡ later.task = eqb-true _ _ p.0 in
          let k : row.kind ≡ later.kind = eqb-true _ _ p.1 in
          let low : nat_lt row.task later.task ≡ false = le-ltb row.task later.task (omega arith)
          in
          let short : nat_lt row.kind later.kind ≡ false = le-ltb row.kind later.kind (omega arith)
          in
          let none : comes_before later.task later.kind row ≡ false = rw (low, short, p.0) refl in
          absurd (false≢true (sym none ∙ before))
    ]

pub each_get : {X : Type 0} (P : X → Type 0) (xs : List X) (i : ℕ) (x : X)
    → AllByRecursion P xs
    → slice_get xs i ≡ Some x
    → P x
each_get P [] i x all e = absurd (none-some x e)
each_get P (y ∷ ys) zero x all e = subst P (same_Some _ _ e) all.0
each_get P (y ∷ ys) (suc i) x all e = each_get P ys i x all.1 e

-- the class of a row's births is its place
pub births_found : (c : ℕ) (rows : List BirthRow) (i : ℕ) (row : BirthRow)
    → AreAscending rows
    → slice_get rows i ≡ Some row
    → births_from c row.task row.kind (map pair_of rows) ≡ Some (c + i)
births_found c [] i row up e = absurd (none-some row e)
births_found c (first ∷ rows) zero row up e =
    let same : first ≡ row = same_Some _ _ e in
    let is : (first.task == row.task && first.kind == row.kind) ≡ true =
    and_from _ _ (eq-eqb _ _ (ap (λ (r : BirthRow). r.task) same))
    (eq-eqb _ _ (ap (λ (r : BirthRow). r.kind) same)) in
    ap (λ b. cond b (Some c) (births_from (c + 1) row.task row.kind (map pair_of rows))) is
    ∙ ap (λ (n : ℕ). Some n) (omega arith)
births_found c (first ∷ rows) (suc i) row up e =
    let before = each_get (IsBefore first) rows i row up.0 e in
    ap (λ b. cond b (Some c) (births_from (c + 1) row.task row.kind (map pair_of rows)))
    (differs first row before)
    ∙ births_found (c + 1) rows i row up.1 e
    ∙ ap (λ (n : ℕ). Some n) (omega arith)

-- ---- how many there are

-- the place of a row among all that there may be
abbrev key : BirthRow → ℕ
key row = row.task * 16 + row.kind

key_before : (row later : BirthRow) → row.kind < 16 → IsBefore row later → key row < key later
key_before row later small before =
    elim (cases_Bool (nat_lt row.task later.task)) [
      | inl less ↦ let lt = ltb-true row.task later.task less in omega arith
      | inr past ↦
          let p = and_parts (row.task == later.task) (nat_lt row.kind later.kind)
          (sym (ap (λ b. b || (row.task == later.task && nat_lt row.kind later.kind)) past)
          ∙ before)
          in
          let same = eqb-true row.task later.task p.0 in
          let lt = ltb-true row.kind later.kind p.1 in
          omega arith
    ]

from_first : (n : ℕ) (row : BirthRow) (rows : List BirthRow)
    → AreAscending (row ∷ rows)
    → AllByRecursion (λ (r : BirthRow). r.task < n) (row ∷ rows)
    → AreKinds (row ∷ rows)
    → key row + length (row ∷ rows) ≤ n * 16
from_first n row [] up each small =
    let t = each.0 in let k = small.0 in omega arith
from_first n row (next ∷ rows) up each small =
    let rest = from_first n next rows up.1 each.1 small.1 in
    let less = key_before row next small.0 up.0.0 in
    omega arith

-- no more than sixteen for each task
pub few_births : (n : ℕ) (rows : List BirthRow)
    → AreBirths n rows
    → AreKinds rows
    → length rows ≤ n * 16
few_births n [] are small = omega arith
few_births n (row ∷ rows) are small =
    let all = from_first n row rows are.ascending are.each small in omega arith

-- ---- one more row

each_more : {X : Type 0} (P : X → Type 0) (xs : List X) (y : X)
    → AllByRecursion P xs
    → P y
    → AllByRecursion P (xs ++ y ∷ [])
each_more P [] y all is = (is, tt)
each_more P (x ∷ xs) y all is = (all.0, each_more P xs y all.1 is)

ascending_more : (n : ℕ) (rows : List BirthRow)
    → AreAscending rows
    → AllByRecursion (λ (r : BirthRow). r.task < n) rows
    → AreAscending (rows ++ new_row n 0 ∷ [])
ascending_more n [] up each = (tt, tt)
ascending_more n (row ∷ rows) up each =
    let before : comes_before n 0 row ≡ true =
    ap (λ b. b || (row.task == n && nat_lt row.kind 0)) (lt-ltb row.task n each.0) in (
      each_more (IsBefore row) rows (new_row n 0) up.0 before,
      ascending_more n rows up.1 each.1,
    )

each_below : (n : ℕ) (rows : List BirthRow)
    → AllByRecursion (λ (r : BirthRow). r.task < n) rows
    → AllByRecursion (λ (r : BirthRow). r.task < n + 1) rows
each_below n [] each = tt
each_below n (row ∷ rows) each = (omega (arith, each.0), each_below n rows each.1)

zeroth_more : (n : ℕ) (rows : List BirthRow) (t : ℕ)
    → ((t : ℕ) → t < n → IsTrue (has_row rows t 0))
    → t < n + 1
    → IsTrue (has_row (rows ++ new_row n 0 ∷ []) t 0)
zeroth_more n rows t zeroth less =
    elim (cases_lt t n) [
      | inl low ↦ list_any-append (is_row t 0) rows (new_row n 0 ∷ [])
          ∙ ap (λ b. b || list_any (is_row t 0) (new_row n 0 ∷ [])) (zeroth t low)
      | inr high ↦
          let same : n ≡ t = omega arith in
          let there : is_row t 0 (new_row n 0) ≡ true = rw (eq-eqb n t same) refl in
          list_any-append (is_row t 0) rows (new_row n 0 ∷ [])
          ∙ ap (λ b. list_any (is_row t 0) rows || (b || false)) there
          ∙ or-true (list_any (is_row t 0) rows)
    ]

-- the births of one more task
pub births_more : (n : ℕ) (rows : List BirthRow)
    → AreBirths n rows
    → AreBirths (n + 1) (rows ++ new_row n 0 ∷ [])
births_more n rows are = record {
  ascending = ascending_more n rows are.ascending are.each;
  each = each_more (λ (r : BirthRow). r.task < n + 1) rows (new_row n 0)
      (each_below n rows are.each) (omega arith);
  zeroth = λ t less. zeroth_more n rows t are.zeroth less;
}

pub kinds_more : (n : ℕ) (rows : List BirthRow)
    → AreKinds rows
    → AreKinds (rows ++ new_row n 0 ∷ [])
kinds_more n rows small =
    each_more (λ (r : BirthRow). r.kind < 16) rows (new_row n 0) small (omega arith)

-- a property of each row, and of the one that is put
pub each_put : (P : BirthRow → Type 0) (rows : List BirthRow) (t kind : ℕ) (label : List LabelItem)
    → AllByRecursion P rows
    → P (said_row t kind label)
    → AllByRecursion P (put_row rows t kind label)
unfolding put_row
each_put P [] t kind label each is = (is, tt)
each_put P (row ∷ rows) t kind label each is =
    elim (comes_before t kind row) as (λ b. AllByRecursion P (cond b (row ∷ put_row rows t kind
    label) (cond (is_row t kind row) (said_row t kind label ∷ rows) (said_row t kind label ∷ row ∷
    rows)))) [
      | true ↦ (each.0, each_put P rows t kind label each.1 is)
      | false ↦ elim (is_row t kind row) as (λ b. AllByRecursion P (cond b (said_row t kind label ∷
          rows) (said_row t kind label ∷ row ∷ rows))) [
            | true ↦ (is, each.1)
            | false ↦ (is, (each.0, each.1))
          ]
    ]

not_below : (row : BirthRow) (t kind : ℕ)
    → nat_lt row.task t ≡ false
    → (row.task == t) ≡ true
    → comes_before t kind row ≡ nat_lt row.kind kind
not_below row t kind below is = rw (below, is) refl

not_task : (row : BirthRow) (t kind : ℕ)
    → (row.task == t) ≡ true
    → is_row t kind row ≡ (row.kind == kind)
not_task row t kind is = rw is refl

-- rows are comparable
pub later_row : (t kind : ℕ) (row : BirthRow)
    → comes_before t kind row ≡ false
    → is_row t kind row ≡ false
    → (label : List LabelItem)
    → IsBefore (said_row t kind label) row
later_row t kind row not_before other label =
    elim (cases_lt t row.task) [
      | inl less ↦ ap (λ b. b || (t == row.task && nat_lt kind row.kind)) (lt-ltb t row.task less)
      | inr high ↦
          elim (cases_lt row.task t) [
            | inl lower ↦ absurd (false≢true (sym not_before
                ∙ ap (λ b. b || (row.task == t && nat_lt row.kind kind)) (lt-ltb row.task t lower)))
            | inr low ↦
                let same : row.task ≡ t = omega arith in
                let is : (row.task == t) ≡ true = eq-eqb row.task t same in
                let si : (t == row.task) ≡ true = eq-eqb t row.task (sym same) in
                let below : nat_lt row.task t ≡ false = le-ltb row.task t (omega arith) in
                let above : nat_lt t row.task ≡ false = le-ltb t row.task (omega arith) in
                let ge : nat_lt row.kind kind ≡ false = sym (not_below row t kind below is)
                ∙ not_before in
                let ne : (row.kind == kind) ≡ false = sym (not_task row t kind is) ∙ other in
                let le = ltb-false row.kind kind ge in
                let differ = eqb-false row.kind kind ne in
                let less : nat_lt kind row.kind ≡ true = lt-ltb kind row.kind (omega arith) in
                rw (above, si, less) refl
          ]
    ]

pub before_is : (a b : BirthRow) → IsBefore a b
    → (a.task < b.task) ⊎ ((a.task ≡ b.task) × (a.kind < b.kind))
before_is a b before =
    elim (cases_Bool (nat_lt a.task b.task)) [
      | inl less ↦ inl (ltb-true a.task b.task less)
      | inr past ↦
          let p = and_parts (a.task == b.task) (nat_lt a.kind b.kind)
          (sym (ap (λ x. x || (a.task == b.task && nat_lt a.kind b.kind)) past) ∙ before) in
          inr (eqb-true a.task b.task p.0, ltb-true a.kind b.kind p.1)
    ]

before_from : (a b : BirthRow) → (a.task < b.task) ⊎ ((a.task ≡ b.task) × (a.kind < b.kind))
    → IsBefore a b
before_from a b (inl less) =
    ap (λ x. x || (a.task == b.task && nat_lt a.kind b.kind)) (lt-ltb a.task b.task less)
before_from a b (inr (same, less)) =
    ap (λ x. nat_lt a.task b.task || (x && nat_lt a.kind b.kind)) (eq-eqb a.task b.task same)
    ∙ ap (λ x. nat_lt a.task b.task || x) (lt-ltb a.kind b.kind less)
    ∙ or-true (nat_lt a.task b.task)

pub before_then : (a b c : BirthRow) → IsBefore a b → IsBefore b c → IsBefore a c
before_then a b c first second =
    let ab = before_is a b first in
    let bc = before_is b c second in
    before_from a c (elim ab [
      | inl one ↦ elim bc [
        | inl two ↦ inl (omega arith)
        | inr two ↦ inl (omega (arith, two.0))
      ]
      | inr one ↦ elim bc [
        | inl two ↦ inl (omega (arith, one.0))
        | inr two ↦ inr (one.0 ∙ two.0, omega (arith, one.1, two.1))
      ]
    ])

-- what comes before a row comes before all behind it
pub before_all : (first row : BirthRow) (rows : List BirthRow)
    → IsBefore first row
    → AllByRecursion (IsBefore row) rows
    → AllByRecursion (IsBefore first) rows
before_all first row [] before each = tt
before_all first row (next ∷ rows) before each =
    (before_then first row next before each.0, before_all first row rows before each.1)

-- the row that is put has the task and the kind of the one that it takes the place of
pub same_before : (t kind : ℕ) (row : BirthRow) (rows : List BirthRow) (label : List LabelItem)
    → is_row t kind row ≡ true
    → AllByRecursion (IsBefore row) rows
    → AllByRecursion (IsBefore (said_row t kind label)) rows
same_before t kind row [] label is each = tt
same_before t kind row (next ∷ rows) label is each =
    let p = and_parts (row.task == t) (row.kind == kind) is in
    let task = eqb-true row.task t p.0 in
    let kind_is = eqb-true row.kind kind p.1 in (
      sym (ap (λ (n : ℕ). nat_lt n next.task || (n == next.task && nat_lt row.kind next.kind)) task
          ∙ ap (λ (n : ℕ). nat_lt t next.task || (t == next.task && nat_lt n next.kind)) kind_is)
          ∙ each.0,
      same_before t kind row rows label is each.1,
    )

pub ascending_put : (rows : List BirthRow) (t kind : ℕ) (label : List LabelItem)
    → AreAscending rows
    → AreAscending (put_row rows t kind label)
unfolding put_row
ascending_put [] t kind label up = (tt, tt)
ascending_put (row ∷ rows) t kind label up =
    elim (comes_before t kind row) as (λ b. comes_before t kind row ≡ b
    → AreAscending (cond b (row ∷
    put_row rows t kind label) (cond (is_row t kind row) (said_row t kind label ∷ rows)
    (said_row t kind label ∷ row ∷ rows)))) [
      | true ↦ λ before. (
        each_put (IsBefore row) rows t kind label up.0 before,
        ascending_put rows t kind label up.1,
      )
      | false ↦ λ past. elim (is_row t kind row) as (λ b. is_row t kind row ≡ b
          → AreAscending (cond b
          (said_row t kind label ∷ rows) (said_row t kind label ∷ row ∷ rows))) [
            | true ↦ λ is. (same_before t kind row rows label is up.0, up.1)
            | false ↦ λ other.
                let first = later_row t kind row past other label in
                ((first, before_all (said_row t kind label) row rows first up.0), (up.0, up.1))
          ] refl
    ] refl

has_put : (rows : List BirthRow) (t kind : ℕ) (label : List LabelItem) (u k : ℕ)
    → IsTrue (has_row rows u k)
    → IsTrue (has_row (put_row rows t kind label) u k)
unfolding put_row
has_put [] t kind label u k e = absurd (false≢true e)
has_put (row ∷ rows) t kind label u k e =
    elim (comes_before t kind row) as (λ b. IsTrue (has_row (cond b (row ∷ put_row rows t kind
    label) (cond (is_row t kind row) (said_row t kind label ∷ rows) (said_row t kind label ∷ row ∷
    rows))) u k)) [
      | true ↦ elim (is_row u k row) as (λ b. (b || has_row rows u k) ≡ true
          → (b || has_row (put_row rows t kind label) u k) ≡ true) [
            | true ↦ λ h. refl
            | false ↦ λ h. has_put rows t kind label u k h
          ] e
      | false ↦ elim (is_row t kind row) as (λ b. is_row t kind row ≡ b → IsTrue (has_row (cond b
          (said_row t kind label ∷ rows) (said_row t kind label ∷ row ∷ rows)) u k)) [
            | true ↦ λ is.
                let p = and_parts (row.task == t) (row.kind == kind) is in
                sym (ap (λ (n : ℕ). (n == u && row.kind == k) || has_row rows u k)
                (eqb-true row.task t p.0)
                ∙ ap (λ (n : ℕ). (t == u && n == k) || has_row rows u k)
                (eqb-true row.kind kind p.1))
                ∙ e
            | false ↦ λ other. ap (λ b. (t == u && kind == k) || b) e
                ∙ or-true (t == u && kind == k)
          ] refl
    ]

-- the births with what those of a task and a kind accept
pub births_put : (n : ℕ) (rows : List BirthRow) (t kind : ℕ) (label : List LabelItem)
    → AreBirths n rows
    → t < n
    → AreBirths n (put_row rows t kind label)
births_put n rows t kind label are less = record {
  ascending = ascending_put rows t kind label are.ascending;
  each = each_put (λ (r : BirthRow). r.task < n) rows t kind label are.each less;
  zeroth = λ u low. has_put rows t kind label u 0 (are.zeroth u low);
}

pub kinds_put : (rows : List BirthRow) (t kind : ℕ) (label : List LabelItem)
    → AreKinds rows
    → kind < 16
    → AreKinds (put_row rows t kind label)
kinds_put rows t kind label small is =
    each_put (λ (r : BirthRow). r.kind < 16) rows t kind label small is

-- ---- how a row is put

there_cons : (row : BirthRow) (rows : List BirthRow) (t kind : ℕ) (label : List LabelItem)
    (b : Bool)
    → (stands_at rows (place_of rows t kind) t kind ≡ true
    → set rows (place_of rows t kind) (said_row t kind label) ≡ put_row rows t kind label)
    → stands_at (row ∷ rows) (cond (not (not b)) (1 + place_of rows t kind) 0) t kind ≡ true
    → set (row ∷ rows) (cond (not (not b)) (1 + place_of rows t kind) 0) (said_row t kind label)
    ≡ cond b (row ∷ put_row rows t kind label) (cond (is_row t kind row)
    (said_row t kind label ∷ rows) (said_row t kind label ∷ row ∷ rows))
there_cons row rows t kind label true rest at =
    let one : 1 + place_of rows t kind ≡ suc (place_of rows t kind) = omega arith in
    ap (λ (n : ℕ). set (row ∷ rows) n (said_row t kind label)) one
    ∙ ap (λ rs. row ∷ rs) (rest (sym (ap (λ (n : ℕ). stands_at (row ∷ rows) n t kind) one) ∙ at))
there_cons row rows t kind label false rest at =
    sym (ap (λ b. cond b (said_row t kind label ∷ rows) (said_row t kind label ∷ row ∷ rows)) at)

-- in the place of the one that is there
pub put_there : (rows : List BirthRow) (t kind : ℕ) (label : List LabelItem)
    → stands_at rows (place_of rows t kind) t kind ≡ true
    → set rows (place_of rows t kind) (said_row t kind label) ≡ put_row rows t kind label
unfolding put_row
put_there [] t kind label e = absurd (false≢true e)
put_there (row ∷ rows) t kind label e =
    there_cons row rows t kind label (comes_before t kind row)
    (put_there rows t kind label) e

between_cons : (row : BirthRow) (rows : List BirthRow) (t kind : ℕ) (label : List LabelItem)
    (b : Bool)
    → (stands_at rows (place_of rows t kind) t kind ≡ false
    → insert rows (place_of rows t kind) (said_row t kind label) ≡ put_row rows t kind label)
    → stands_at (row ∷ rows) (cond (not (not b)) (1 + place_of rows t kind) 0) t kind ≡ false
    → insert (row ∷ rows) (cond (not (not b)) (1 + place_of rows t kind) 0) (said_row t kind label)
    ≡ cond b (row ∷ put_row rows t kind label) (cond (is_row t kind row)
    (said_row t kind label ∷ rows) (said_row t kind label ∷ row ∷ rows))
between_cons row rows t kind label true rest at =
    let one : 1 + place_of rows t kind ≡ suc (place_of rows t kind) = omega arith in
    ap (λ (n : ℕ). insert (row ∷ rows) n (said_row t kind label)) one
    ∙ ap (λ rs. row ∷ rs) (rest (sym (ap (λ (n : ℕ). stands_at (row ∷ rows) n t kind) one) ∙ at))
between_cons row rows t kind label false rest at =
    sym (ap (λ b. cond b (said_row t kind label ∷ rows) (said_row t kind label ∷ row ∷ rows)) at)

-- before those that come behind it
pub put_between : (rows : List BirthRow) (t kind : ℕ) (label : List LabelItem)
    → stands_at rows (place_of rows t kind) t kind ≡ false
    → insert rows (place_of rows t kind) (said_row t kind label) ≡ put_row rows t kind label
unfolding put_row
put_between [] t kind label e = refl
put_between (row ∷ rows) t kind label e =
    between_cons row rows t kind label (comes_before t kind row)
    (put_between rows t kind label) e

-- ---- by the table

-- the class of the births of a task and a kind, by the place of their row
pub births_class_at : (table : Table) (u kind : ℕ)
    → births_class (wiring_of table) u kind
    ≡ option_map (λ (i : ℕ). length table.ports + length table.names + i)
    (position (is_row u kind) table.births)
births_class_at table u kind =
    births_at (length table.ports + length table.names) u kind table.births

pub no_class : (table : Table) (u kind : ℕ) (o : Option ℕ)
    → o ≡ position (is_row u kind) table.births
    → o ≡ None
    → births_class (wiring_of table) u kind ≡ None
no_class table u kind o is none =
    births_class_at table u kind ∙ ap (option_map
    (λ (i : ℕ). length table.ports + length table.names + i))
    (sym is ∙ none)

pub class_at : (table : Table) (u kind i d : ℕ) (o : Option ℕ)
    → o ≡ position (is_row u kind) table.births
    → o ≡ Some i
    → d ≡ length table.ports + length table.names + i
    → births_class (wiring_of table) u kind ≡ Some d
class_at table u kind i d o is found e =
    births_class_at table u kind ∙ ap (option_map
    (λ (i : ℕ). length table.ports + length table.names + i))
    (sym is ∙ found) ∙ ap (λ (n : ℕ). Some n) (sym e)

-- the same of a class as it is kept
pub no_kind_class : (ports tasks : ℕ) (births : List BirthRow) (k : ClassKind) (n m kind kept : ℕ)
    (o : Option ℕ)
    → k ≡ Births kept
    → o ≡ position (is_row m kind) births
    → m ≡ n
    → kind ≡ kept
    → o ≡ None
    → kind_class ports tasks births k n ≡ None
no_kind_class ports tasks births k n m kind kept o is found same_task same_kind none =
    ap (λ (x : ClassKind). kind_class ports tasks births x n) is
    ∙ sym (ap (λ (x : ℕ). births_from (ports + tasks) x kept (map pair_of births)) same_task)
    ∙ sym (ap (λ (x : ℕ). births_from (ports + tasks) m x (map pair_of births)) same_kind)
    ∙ births_at (ports + tasks) m kind births
    ∙ ap (option_map (λ (i : ℕ). ports + tasks + i)) (sym found ∙ none)

pub kind_class_at : (ports tasks : ℕ) (births : List BirthRow) (k : ClassKind)
    (n m kind kept i : ℕ) (o : Option ℕ)
    → k ≡ Births kept
    → o ≡ position (is_row m kind) births
    → m ≡ n
    → kind ≡ kept
    → o ≡ Some i
    → kind_class ports tasks births k n ≡ Some (ports + tasks + i)
kind_class_at ports tasks births k n m kind kept i o is found same_task same_kind at =
    ap (λ (x : ClassKind). kind_class ports tasks births x n) is
    ∙ sym (ap (λ (x : ℕ). births_from (ports + tasks) x kept (map pair_of births)) same_task)
    ∙ sym (ap (λ (x : ℕ). births_from (ports + tasks) m x (map pair_of births)) same_kind)
    ∙ births_at (ports + tasks) m kind births
    ∙ ap (option_map (λ (i : ℕ). ports + tasks + i)) (sym found ∙ at)
