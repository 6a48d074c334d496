-- Classes of births are numbered without a gap, each once, by task and then by kind.
use Rattle.std.proofs.Common.{◌≡◌, ℕ, zero, suc, ◌+◌, ◌-◌, ◌<◌, ◌≤◌, ◌||◌, ◌==◌, true}
use Rattle.std.proofs.Common.{List, [], ◌∷◌, length, map, Option, Some, refl, ap, sym, ◌∙◌}
use Rattle.std.proofs.Common.{arith, inl, inr, subst}
use Rattle.std.specs.Prelude.{slice_get, IsTrue, is_some}
use Rattle.std.specs.List.{AllByRecursion}
use Rattle.std.specs.Option.{option_map}
use Rattle.std.proofs.lemmas.Bool.{cases_Bool, and_parts, eqb-true, false≢true, cases_lt}
use Rattle.std.proofs.lemmas.List.{length-map}
use Rattle.std.proofs.lemmas.Option.{none-some, same_Some, slice_get_within}
use Rattle.mrc_model.specs.Wiring.{births_from}
use Rattle.mrc_wiring.specs.declared.births.BirthRow.{BirthRow}
use Rattle.mrc_wiring.specs.Births.{is_row, has_row, pair_of, AreAscending}
use Rattle.mrc_wiring.specs.Births.{AreBirths}
use Rattle.mrc_wiring.specs.ClassNumbers.{IsEarlier, BirthsAreNumbered}
use Rattle.mrc_wiring.proofs.BirthLaws.{IsBefore, before_is, births_are, births_at, births_found}
use Rattle.mrc_wiring.proofs.BirthLaws.{each_get}
use Rattle.mrc_wiring.proofs.RowPlaces.{has_placed, position_placed}

-- of two rows the earlier one comes before the other
ascending_at : (rows : List BirthRow) (i j : ℕ) (one other : BirthRow)
    → AreAscending rows
    → i < j
    → slice_get rows i ≡ Some one
    → slice_get rows j ≡ Some other
    → IsBefore one other
ascending_at [] i j one other up less first second = absurd (none-some one first)
ascending_at (row ∷ rows) zero zero one other up less first second = absurd (omega arith)
ascending_at (row ∷ rows) zero (suc j) one other up less first second =
    subst (λ (r : BirthRow). IsBefore r other) (same_Some _ _ first)
    (each_get (IsBefore row) rows j other up.0 second)
ascending_at (row ∷ rows) (suc i) zero one other up less first second = absurd (omega arith)
ascending_at (row ∷ rows) (suc i) (suc j) one other up less first second =
    ascending_at rows i j one other up.1 (omega arith) first second

-- there is a row at each place
row_there : (rows : List BirthRow) (i : ℕ)
    → i < length rows
    → (row : BirthRow) × (slice_get rows i ≡ Some row)
row_there [] i less = absurd (omega arith)
row_there (row ∷ rows) zero less = (row, refl)
row_there (row ∷ rows) (suc i) less = row_there rows i (omega arith)

-- a class of births has a number behind the first
pub births_behind : (c u kind : ℕ) (rows : List BirthRow) (d : ℕ)
    → births_from c u kind (map pair_of rows) ≡ Some d
    → (c ≤ d) × (d < c + length rows)
births_behind c u kind rows d e =
    let is = births_are c u kind rows d e in
    let at = is.1 in
    let less = slice_get_within rows is.0 is.2.row is.2.there in
    (omega arith, omega arith)

-- a number is that of one task and one kind
births_once : (c t kind u other : ℕ) (rows : List BirthRow) (d : ℕ)
    → births_from c t kind (map pair_of rows) ≡ Some d
    → births_from c u other (map pair_of rows) ≡ Some d
    → (t ≡ u) × (kind ≡ other)
births_once c t kind u other rows d first second =
    let one = births_are c t kind rows d first in
    let two = births_are c u other rows d second in
    let at = one.1 in
    let back = two.1 in
    let same : one.0 ≡ two.0 = omega arith in
    let row : one.2.row ≡ two.2.row = same_Some _ _ (sym one.2.there
    ∙ ap (λ (n : ℕ). slice_get rows n) same ∙ two.2.there) in (
      sym one.2.task ∙ ap (λ (r : BirthRow). r.task) row ∙ two.2.task,
      sym one.2.kind_is ∙ ap (λ (r : BirthRow). r.kind) row ∙ two.2.kind_is,
    )

-- of two the one of the later row is not earlier
not_earlier : (t kind u other : ℕ) (one two : BirthRow)
    → two.task ≡ t
    → two.kind ≡ kind
    → one.task ≡ u
    → one.kind ≡ other
    → IsBefore one two
    → IsEarlier t kind u other
    → ⊥
not_earlier t kind u other one two of_t of_kind of_u of_other before earlier =
    elim (before_is one two before) [
      | inl low ↦ elim earlier [
        | inl less ↦ omega arith
        | inr both ↦ let same = both.0 in omega arith
      ]
      | inr lower ↦
          let task = lower.0 in
          let less_kind = lower.1 in
          elim earlier [
            | inl less ↦ omega arith
            | inr both ↦
                let same = both.0 in
                let kind_less = both.1 in
                omega arith
          ]
    ]

not_itself : (t kind u other : ℕ) → IsEarlier t kind u other → t ≡ u → kind ≡ other → ⊥
not_itself t kind u other earlier same alike =
    elim earlier [ inl less ↦ omega arith | inr both ↦ let low = both.1 in omega arith ]

-- the earlier one has the lower number
births_ascend : (c t kind u other : ℕ) (rows : List BirthRow) (d e : ℕ)
    → AreAscending rows
    → births_from c t kind (map pair_of rows) ≡ Some d
    → births_from c u other (map pair_of rows) ≡ Some e
    → IsEarlier t kind u other
    → d < e
births_ascend c t kind u other rows d e up first second earlier =
    let one = births_are c t kind rows d first in
    let two = births_are c u other rows e second in
    let at = one.1 in
    let back = two.1 in
    elim (cases_lt d e) [
      | inl less ↦ less
      | inr high ↦ absurd (elim (cases_lt e d) [
        | inl lower ↦
            not_earlier t kind u other two.2.row one.2.row one.2.task one.2.kind_is two.2.task
            two.2.kind_is
            (ascending_at rows two.0 one.0 two.2.row one.2.row up (omega arith) two.2.there
            one.2.there) earlier
        | inr level ↦
            let same : d ≡ e = omega arith in
            let both = births_once c t kind u other rows e
            (subst (λ (n : ℕ). births_from c t kind (map pair_of rows) ≡ Some n) same first) second
            in
            not_itself t kind u other earlier both.0 both.1
      ])
    ]

-- ---- one at least for each task

-- what comes behind a row is of no lower task
not_above : (row : BirthRow) (rows : List BirthRow) (a : ℕ)
    → AllByRecursion (IsBefore row) rows
    → IsTrue (has_row rows a 0)
    → row.task ≤ a
not_above row [] a behind e = absurd (false≢true e)
not_above row (next ∷ rows) a behind e =
    elim (cases_Bool (is_row a 0 next)) [
      | inl is ↦
          let same = eqb-true next.task a (and_parts (next.task == a) (next.kind == 0) is).0 in
          elim (before_is row next behind.0) [
            | inl less ↦ omega arith
            | inr both ↦ let task = both.0 in omega arith
          ]
      | inr other ↦
          not_above row rows a behind.1 (sym (ap (λ b. b || has_row rows a 0) other) ∙ e)
    ]

-- kind 0 of a task above that of the first row is behind it
kind_behind : (a t : ℕ) (row : BirthRow) (rows : List BirthRow)
    → AllByRecursion (IsBefore row) rows
    → IsTrue (has_row (row ∷ rows) a 0)
    → a < t
    → IsTrue (has_row (row ∷ rows) t 0)
    → IsTrue (has_row rows t 0)
kind_behind a t row rows behind first less has =
    elim (cases_Bool (is_row t 0 row)) [
      | inr other ↦ sym (ap (λ b. b || has_row rows t 0) other) ∙ has
      | inl is ↦
          let same = eqb-true row.task t (and_parts (row.task == t) (row.kind == 0) is).0 in
          absurd (elim (cases_Bool (is_row a 0 row)) [
            | inl also ↦
                let of_a = eqb-true row.task a (and_parts (row.task == a) (row.kind == 0) also).0 in
                omega arith
            | inr other ↦
                let low = not_above row rows a behind
                (sym (ap (λ b. b || has_row rows a 0) other) ∙ first) in
                omega arith
          ])
    ]

enough_from : (a n : ℕ) (rows : List BirthRow)
    → AreAscending rows
    → ((t : ℕ) → a ≤ t → t < n → IsTrue (has_row rows t 0))
    → n ≤ a + length rows
enough_from a n [] up zeroth =
    elim (cases_lt a n) [
      | inl less ↦ absurd (false≢true (zeroth a (omega arith) less))
      | inr high ↦ omega arith
    ]
enough_from a n (row ∷ rows) up zeroth =
    let rest = enough_from (a + 1) n rows up.1 (λ t low less. kind_behind a t row rows up.0
    (zeroth a (omega arith) (omega arith)) (omega arith) (zeroth t (omega arith) less)) in
    omega arith

-- as many as tasks at least
pub births_enough : (n : ℕ) (rows : List BirthRow) → AreBirths n rows → n ≤ length rows
births_enough n rows are =
    let all = enough_from 0 n rows are.ascending (λ t low less. are.zeroth t less) in omega arith

-- ---- the law

-- each task has births of kind 0
kind_0_there : (c u : ℕ) (rows : List BirthRow)
    → AreAscending rows
    → IsTrue (has_row rows u 0)
    → is_some (births_from c u 0 (map pair_of rows)) ≡ true
kind_0_there c u rows up has =
    ap (λ (o : Option ℕ). is_some o) (births_at c u 0 rows
    ∙ ap (option_map (λ (i : ℕ). c + i))
    (position_placed u 0 rows true up (sym (has_placed u 0 rows up) ∙ has)))

pub births_numbered : BirthsAreNumbered
births_numbered table is =
    let rows = table.births in
    let first = length table.ports + length table.names in
    let many = length-map rows pair_of in
    record {
      behind = λ t kind c e.
          let b = births_behind first t kind rows c e in
          (b.0, omega (arith, b.1));
      each = λ c low high.
          let there = row_there rows (c - first) (omega arith) in (
            there.0.task,
            there.0.kind,
            each_get (λ (r : BirthRow). r.task < length table.names) rows (c - first) there.0
                is.births.each there.1,
            births_found first rows (c - first) there.0 is.births.ascending there.1
                ∙ ap (λ (n : ℕ). Some n) (omega arith),
          );
      once = λ t kind u other c e f. births_once first t kind u other rows c e f;
      ascending = λ t kind u other c d e f earlier. births_ascend first t kind u other rows c d
          is.births.ascending e f earlier;
      zeroth = λ u less. kind_0_there first u rows is.births.ascending (is.births.zeroth u less);
    }
