-- Lists with one element more, and which rows of births are there after one is put.
use Rattle.std.proofs.Common.{◌≡◌, ◌⊎◌, inl, inr, ℕ, zero, suc, ◌+◌, Bool, true, false, cond}
use Rattle.std.proofs.Common.{List, [], ◌∷◌, ◌++◌, length, Option, Some, None, refl, ap, sym, subst}
use Rattle.std.proofs.Common.{◌∙◌, arith, ◌==◌, if◌then◌else◌, nat_lt}
use Rattle.std.specs.Prelude.{slice_get, position, is_some}
use Rattle.std.specs.List.{AllByRecursion, position_or_len, filter_map}
use Rattle.std.specs.List.{cons_option}
use Rattle.std.proofs.lemmas.Bool.{cases_Bool, and_parts, and_from, eqb-true}
use Rattle.std.proofs.lemmas.Bool.{eq-eqb, ltb-true, lt-ltb, false≢true}
use Rattle.std.proofs.lemmas.List.{append-nil, length-append}
use Rattle.std.proofs.lemmas.List.Elements.{filter_map-append}
use Rattle.std.proofs.lemmas.List.Folds.{position_or_len_push}
use Rattle.std.proofs.lemmas.Option.{none-some, same_Some}
use Rattle.mrc_model.specs.IsIn.{IsIn, here, later}
use Rattle.mrc_model.specs.declared.LabelItem.{LabelItem}
use Rattle.mrc_model.proofs.FirstHeld.{in_cons}
use Rattle.mrc_model.proofs.Members.{in_any, any_in}
use Rattle.mrc_wiring.specs.declared.births.BirthRow.{BirthRow}
use Rattle.mrc_wiring.specs.Births.{is_row, is_said, comes_before, has_row, has_said, said_row}
use Rattle.mrc_wiring.specs.Births.{put_row, AreAscending}
use Rattle.mrc_wiring.proofs.BirthLaws.{IsBefore, before_is}

-- ---- one element more

-- what is read is one of the elements, or the new one behind them
pub snoc_get : {X : Type 0} (xs : List X) (y : X) (i : ℕ) (z : X)
    → slice_get (xs ++ y ∷ []) i ≡ Some z
    → (slice_get xs i ≡ Some z) ⊎ ((i ≡ length xs) × (y ≡ z))
snoc_get [] y zero z e = inr (refl, same_Some _ _ e)
snoc_get [] y (suc i) z e = absurd (none-some z e)
snoc_get (x ∷ xs) y zero z e = inl e
snoc_get (x ∷ xs) y (suc i) z e = elim (snoc_get xs y i z e) [
  | inl h ↦ inl h
  | inr h ↦ inr (omega (arith, h.0), h.1)
]

-- the first place that passes stays the first
pub place_kept : {X : Type 0} (p : X → Bool) (xs : List X) (y : X) (t : ℕ)
    → position p xs ≡ Some t
    → position p (xs ++ y ∷ []) ≡ Some t
place_kept p xs y t e =
    let n = position_or_len p xs in
    elim (cases_Bool (nat_lt n (length xs))) [
      | inr past ↦ absurd (none-some t (sym (ap (λ b. if b then Some n else None) past) ∙ e))
      | inl less ↦
          let low = ltb-true n (length xs) less in
          elim (cases_Bool (n == length xs)) [
            | inl end ↦ let at = eqb-true n (length xs) end in absurd (omega arith)
            | inr before ↦
                let same : position_or_len p (xs ++ y ∷ []) ≡ n = position_or_len_push p xs y
                ∙ ap (λ b. cond b (length xs + cond (p y) 0 1) n) before in
                let more = length-append xs (y ∷ []) in
                let within : nat_lt (position_or_len p (xs ++ y ∷ [])) (length (xs ++ y ∷ []))
                ≡ true = lt-ltb _ _ (omega (arith, same, more, low)) in
                ap (λ b. if b then Some (position_or_len p (xs ++ y ∷ [])) else None) within
                ∙ ap (λ (k : ℕ). Some k) same
                ∙ sym (ap (λ b. if b then Some n else None) less)
                ∙ e
          ]
    ]

-- what is filtered, with one element more
pub map_quiet : {X Y : Type 0} (h : X → Option Y) (xs : List X) (x : X)
    → h x ≡ None
    → filter_map h (xs ++ x ∷ []) ≡ filter_map h xs
map_quiet h xs x e =
    filter_map-append h xs (x ∷ [])
    ∙ ap (λ o. filter_map h xs ++ cons_option o []) e
    ∙ append-nil (filter_map h xs)

pub map_more : {X Y : Type 0} (h : X → Option Y) (xs : List X) (x : X) (y : Y)
    → h x ≡ Some y
    → filter_map h (xs ++ x ∷ []) ≡ filter_map h xs ++ y ∷ []
map_more h xs x y e =
    filter_map-append h xs (x ∷ []) ∙ ap (λ o. filter_map h xs ++ cons_option o []) e

-- ---- elements that pass

pub each_in : {X : Type 0} (P : X → Type 0) (x : X) (xs : List X)
    → AllByRecursion P xs
    → IsIn x xs
    → P x
each_in P x [] all at = elim at [ ]
each_in P x (y ∷ ys) all here = all.0
each_in P x (y ∷ ys) all (later at) = each_in P x ys all.1 at

-- ---- rows

pub row_is : (t kind : ℕ) (row : BirthRow)
    → row.task ≡ t
    → row.kind ≡ kind
    → is_row t kind row ≡ true
row_is t kind row task kind_is =
    and_from (row.task == t) (row.kind == kind) (eq-eqb _ _ task) (eq-eqb _ _ kind_is)

pub is_row_of : (t kind : ℕ) (row : BirthRow)
    → is_row t kind row ≡ true
    → (row.task ≡ t) × (row.kind ≡ kind)
is_row_of t kind row is =
    let p = and_parts (row.task == t) (row.kind == kind) is in
    (eqb-true row.task t p.0, eqb-true row.kind kind p.1)

-- a row that is there, by its task and its kind
pub has_of : (rows : List BirthRow) (row : BirthRow) (t kind : ℕ)
    → IsIn row rows
    → row.task ≡ t
    → row.kind ≡ kind
    → has_row rows t kind ≡ true
has_of rows row t kind at task kind_is =
    in_any (is_row t kind) row rows at (row_is t kind row task kind_is)

-- of one task and kind there is one row
pub row_once : (rows : List BirthRow) (one other : BirthRow)
    → AreAscending rows
    → IsIn one rows
    → IsIn other rows
    → one.task ≡ other.task
    → one.kind ≡ other.kind
    → one ≡ other
row_once [] one other up at also task kind_is = elim at [ ]
row_once (row ∷ rows) one other up at also task kind_is =
    elim (in_cons one row rows at) [
      | inl first ↦ elim (in_cons other row rows also) [
        | inl second ↦ first ∙ sym second
        | inr behind ↦
            let before : IsBefore one other = subst (λ (r : BirthRow). IsBefore r other)
            (sym first) (each_in (IsBefore row) other rows up.0 behind) in
            absurd (not_before one other before task kind_is)
      ]
      | inr there ↦ elim (in_cons other row rows also) [
        | inl second ↦
            let before : IsBefore other one = subst (λ (r : BirthRow). IsBefore r one)
            (sym second) (each_in (IsBefore row) one rows up.0 there) in
            absurd (not_before other one before (sym task) (sym kind_is))
        | inr behind ↦ row_once rows one other up.1 there behind task kind_is
      ]
    ]
  where
    not_before : (a b : BirthRow) → IsBefore a b → a.task ≡ b.task → a.kind ≡ b.kind → ⊥
    not_before a b before same alike =
        elim (before_is a b before) [
          | inl less ↦ omega arith
          | inr both ↦ let low = both.1 in omega arith
        ]

-- ---- the row that is put

pub put_own : (rows : List BirthRow) (t kind : ℕ) (label : List LabelItem)
    → IsIn (said_row t kind label) (put_row rows t kind label)
unfolding put_row
put_own [] t kind label = here
put_own (row ∷ rows) t kind label =
    elim (comes_before t kind row) as (λ b. IsIn (said_row t kind label) (cond b (row ∷ put_row
    rows t kind label) (cond (is_row t kind row) (said_row t kind label ∷ rows)
    (said_row t kind label ∷ row ∷ rows)))) [
      | true ↦ later (put_own rows t kind label)
      | false ↦ elim (is_row t kind row) as (λ b. IsIn (said_row t kind label) (cond b
          (said_row t kind label ∷ rows) (said_row t kind label ∷ row ∷ rows))) [
            | true ↦ here
            | false ↦ here
          ]
    ]

-- a row of another task or kind stays
pub put_other : (rows : List BirthRow) (t kind : ℕ) (label : List LabelItem) (other : BirthRow)
    → IsIn other rows
    → is_row t kind other ≡ false
    → IsIn other (put_row rows t kind label)
unfolding put_row
put_other [] t kind label other at differs = elim at [ ]
put_other (row ∷ rows) t kind label other at differs =
    elim (comes_before t kind row) as (λ b. IsIn other (cond b (row ∷ put_row
    rows t kind label) (cond (is_row t kind row) (said_row t kind label ∷ rows)
    (said_row t kind label ∷ row ∷ rows)))) [
      | true ↦ elim (in_cons other row rows at) [
        | inl same ↦ subst (λ v. IsIn v (row ∷ put_row rows t kind label)) (sym same) here
        | inr there ↦ later (put_other rows t kind label other there differs)
      ]
      | false ↦ elim (is_row t kind row) as (λ b. is_row t kind row ≡ b → IsIn other (cond b
          (said_row t kind label ∷ rows) (said_row t kind label ∷ row ∷ rows))) [
            | true ↦ λ is. elim (in_cons other row rows at) [
              | inl same ↦ absurd (false≢true (sym differs
                  ∙ ap (λ (r : BirthRow). is_row t kind r) same ∙ is))
              | inr there ↦ later there
            ]
            | false ↦ λ is. later at
          ] refl
    ]

-- and no other row is there
pub put_from : (rows : List BirthRow) (t kind : ℕ) (label : List LabelItem) (row : BirthRow)
    → IsIn row (put_row rows t kind label)
    → (row ≡ said_row t kind label) ⊎ IsIn row rows
unfolding put_row
put_from [] t kind label row at = elim (in_cons row (said_row t kind label) [] at) [
  | inl same ↦ inl same
  | inr none ↦ inr none
]
put_from (first ∷ rows) t kind label row at =
    elim (comes_before t kind first) as (λ b. IsIn row (cond b (first ∷ put_row
    rows t kind label) (cond (is_row t kind first) (said_row t kind label ∷ rows)
    (said_row t kind label ∷ first ∷ rows))) → (row ≡ said_row t kind label)
    ⊎ IsIn row (first ∷ rows)) [
      | true ↦ λ in_put. elim (in_cons row first (put_row rows t kind label) in_put) [
        | inl same ↦ inr (subst (λ v. IsIn v (first ∷ rows)) (sym same) here)
        | inr behind ↦ elim (put_from rows t kind label row behind) [
          | inl same ↦ inl same
          | inr there ↦ inr (later there)
        ]
      ]
      | false ↦ elim (is_row t kind first) as (λ b. IsIn row (cond b
          (said_row t kind label ∷ rows) (said_row t kind label ∷ first ∷ rows))
          → (row ≡ said_row t kind label) ⊎ IsIn row (first ∷ rows)) [
            | true ↦ λ in_put. elim (in_cons row (said_row t kind label) rows in_put) [
              | inl same ↦ inl same
              | inr there ↦ inr (later there)
            ]
            | false ↦ λ in_put. in_cons row (said_row t kind label) (first ∷ rows) in_put
          ]
    ] at

-- a row that a line has said anything of is not of a task and kind of which no line has
pub not_said : (rows : List BirthRow) (t kind : ℕ) (row : BirthRow) (label : List LabelItem)
    → has_said rows t kind ≡ false
    → IsIn row rows
    → row.accepts ≡ Some label
    → is_row t kind row ≡ false
not_said rows t kind row label none at accepts =
    elim (cases_Bool (is_row t kind row)) [
      | inr other ↦ other
      | inl is ↦ absurd (false≢true (sym none
          ∙ in_any (is_said t kind) row rows at (and_from (is_row t kind row)
          (is_some row.accepts) is (ap (λ (o : Option (List LabelItem)). is_some o) accepts))))
    ]

-- each task and kind keeps its row
pub has_put : (rows : List BirthRow) (t kind : ℕ) (label : List LabelItem) (u k : ℕ)
    → has_row rows u k ≡ true
    → has_row (put_row rows t kind label) u k ≡ true
has_put rows t kind label u k has =
    let there = any_in (is_row u k) rows has in
    let of_row = is_row_of u k there.0 there.2 in
    elim (cases_Bool (is_row t kind there.0)) [
      | inr other ↦ in_any (is_row u k) there.0 (put_row rows t kind label)
          (put_other rows t kind label there.0 there.1 other) there.2
      | inl own ↦
          let put = is_row_of t kind there.0 own in
          has_of (put_row rows t kind label) (said_row t kind label) u k
          (put_own rows t kind label) (sym put.0 ∙ of_row.0) (sym put.1 ∙ of_row.1)
    ]
