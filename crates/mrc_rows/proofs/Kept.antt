-- A row of bits that is joined with another one through a mask.
use Rattle.std.proofs.Common.{◌≡◌, ℕ, ◌+◌, ◌*◌, ◌/◌, ◌%◌, ◌<◌, ◌≤◌, ◌==◌, Bool, true, false, Vec, List, length}
use Rattle.std.proofs.Common.{[], ◌∷◌, Result, Ok, Err, zero, suc}
use Rattle.std.proofs.Common.{◌-◌, slice_set, refl, ap, sym, subst, ◌∙◌, inl, inr, arith, IsTrue}
use Rattle.std.specs.Prelude.{◌||◌, ◌&&◌, nat_lt, not, OnOk, OnErr, if◌then◌else◌}
use Rattle.std.specs.declared.alloc.Global.{Global}
use Rattle.std.proofs.lemmas.Bool.{cases_lt, cases_order, cases_Bool, and_from, and_parts, eqb-true}
use Rattle.std.proofs.lemmas.List.{length-set}
use Rattle.std.proofs.lemmas.Bool.{cases_eq, ne_eqb, eq-eqb, lt-ltb, le-ltb, or_cases, or_left, or_right}
use Rattle.std.proofs.lemmas.Bool.{true≢false, false≢true, false_from_ne_true}
use Rattle.std.proofs.Math.Bool.{or-false}
use Rattle.mrc_base.specs.declared.Fact.{Fact}
use Rattle.mrc_base.specs.declared.PortRight.{PortRight}
use Rattle.mrc_base.specs.declared.PortRight.TheVariants.{Send, Receive, SendOnce}
use Rattle.mrc_facts.specs.Order.{right_number}
use Rattle.mrc_base.specs.declared.Fact.TheVariants.{Hold, Carry, Backup}
use Rattle.mrc_facts.specs.Order.{is_same}
use Rattle.mrc_facts.specs.Sets.{has, with_fact, begins_after, are_ascending, IsAscending}
use Rattle.mrc_facts.proofs.Members.{has-with_fact, one_list}
use Rattle.mrc_facts.proofs.Total.{equal_from_same, same_itself}
use Rattle.mrc_bits.specs.Bits.{is_set, is_fresh, fresh_count}
use Rattle.mrc_bits.proofs.Counts.{fresh_none, fresh_yes, fresh_no, past}
use Rattle.mrc_base.specs.Limits.{limit_of_tasks}
use Rattle.mrc_rows.specs.Limits.{limit_of_classes, limit_of_words, limit_of_rows}
use Rattle.mrc_rows.specs.Limits.{first_row_of_carries, first_row_of_backups}
use Rattle.mrc_rows.specs.Rows.{is_within, IsWithin, row_of, place_of, words_of, Shows}
use Rattle.mrc_rows.specs.Joining.{is_in_row, is_in_both, JoinedBits, ShowJoined}
use Rattle.mrc_rows.specs.Joining.{is_of, IsNumber, HasRoom}
use Rattle.mrc_rows.specs.Halves.{IsWhole, Whole}
use Rattle.mrc_rows.specs.declared.joining.Row.{Row as Rows}
use Rattle.mrc_rows.proofs.Rows.{words_set, words_other}
use Rattle.mrc_rows.proofs.Rows.{placed, same_place, ascending_with, length_with}
use Rattle.mrc_rows.proofs.Wholes.{whole_with_other}
use Rattle.mrc_rows.proofs.Joins.{joined_more}

abbrev Row : Type 0
Row = Vec ℕ Global

-- the fact of a place

record IsAt (row place : ℕ) : Type 0 where
  fact : Fact
  within : IsWithin fact
  row_is : row_of fact ≡ row
  place_is : place_of fact ≡ place

-- the right of a row
right_at : ℕ → PortRight
right_at n = if n % 3 == 0 then Send else if n % 3 == 1 then Receive else SendOnce

number_at : (n : ℕ) → right_number (right_at n) ≡ n % 3
unfolding right_at
number_at n = elim (cases_eq (n % 3) 0) [
  | inl e ↦ rw e refl
  | inr more ↦ elim (cases_eq (n % 3) 1) [
    | inl e ↦ rw e refl
    | inr two ↦ let e : n % 3 ≡ 2 = omega (arith, more, two) in rw e refl
  ]
]

at_place : (row place : ℕ) → row < limit_of_rows → place < limit_of_classes → IsAt row place
at_place row place there below = elim (cases_lt row first_row_of_carries) [
  | inl hold ↦
      let e = number_at row in
      record {
        fact = Hold (row / 3) place (right_at row);
        within = and_from _ _ (lt-ltb (row / 3) limit_of_tasks (omega arith)) (lt-ltb place limit_of_classes below);
        row_is = omega arith;
        place_is = refl;
      }
  | inr more ↦ elim (cases_lt row first_row_of_backups) [
    | inl carry ↦
        let e = number_at row in
        record {
          fact = Carry ((row - first_row_of_carries) / 3) place (right_at row);
          within = and_from _ _ (lt-ltb ((row - first_row_of_carries) / 3) limit_of_classes (omega arith))
              (lt-ltb place limit_of_classes below);
          row_is = omega arith;
          place_is = refl;
        }
    | inr backup ↦
        record {
          fact = Backup (row - first_row_of_backups) place;
          within = and_from _ _ (lt-ltb (row - first_row_of_backups) limit_of_classes (omega arith))
              (lt-ltb place limit_of_classes below);
          row_is = omega arith;
          place_is = refl;
        }
  ]
]

-- a fact is that of a place by its row and its place
same_at : (row place : ℕ) (f g : Fact) → IsWithin f → row_of f ≡ row → place_of f ≡ place
    → is_same g f ≡ (is_in_row row g && place_of g == place)
same_at row place f g within at_row at = elim (cases_Bool (is_within g)) [
  | inl there ↦
      sym (same_place f g within there)
      ∙ (ap (λ k. row_of g == k && place_of g == place_of f) at_row
      ∙ (ap (λ i. row_of g == row && place_of g == i) at
      ∙ rw there refl))
  | inr outside ↦
      false_from_ne_true (is_same g f) (λ same. true≢false
      (sym (subst IsTrue (ap is_within (sym (equal_from_same g f same))) within) ∙ outside))
      ∙ rw outside refl
]

-- the words of one row are changed
pub joined_bits : (rows : List Row) (k : ℕ) (row : Row) (more mask : List ℕ) → k < length rows
    → length row.items ≡ length (words_of rows k)
    → ((i : ℕ) → is_set row.items i ≡ (is_set (words_of rows k) i
    || (nat_lt i (64 * length (words_of rows k)) && is_in_both more mask i)))
    → JoinedBits rows (slice_set rows k row) k more mask
joined_bits rows k row more mask below as_long put = record {
  same = λ j i. elim (cases_eq j k) [
    | inl e ↦ rw (eq-eqb j k e, e, words_set rows k row below) (put i)
    | inr other ↦ rw (ne_eqb j k other, words_other rows k j row other)
        (sym (or-false (is_set (words_of rows j) i)))
  ];
  sized = λ s j. elim (cases_eq j k) [
    | inl e ↦ subst (λ n. n ≤ limit_of_words)
        (sym (ap (λ n. length (words_of (slice_set rows k row) n)) e
        ∙ (ap length (words_set rows k row below)
        ∙ (as_long ∙ ap (λ n. length (words_of rows n)) (sym e))))) (s j)
    | inr other ↦ subst (λ ws. length ws ≤ limit_of_words)
        (sym (words_other rows k j row other)) (s j)
  ];
  few_rows = λ h. let e = length-set rows k row in omega arith;
}

-- what is joined of the places before one
record JoinedBefore
    (row : ℕ)
    (words more mask : List ℕ)
    (facts : List Fact)
    (count end : ℕ)
    : Type 0 where
  joined : List Fact
  ascending : IsAscending joined
  len : length joined ≡ count + fresh_count words more mask 0 end
  members : (g : Fact) → has joined g ≡ (has facts g
      || (is_in_row row g && (is_in_both more mask (place_of g) && nat_lt (place_of g) end)))

-- a bit that both have and that is not fresh is set
not_fresh : (words more mask : List ℕ) (p : ℕ) → is_fresh words more mask p ≡ false
    → is_in_both more mask p ≡ true → is_set words p ≡ true
not_fresh words more mask p old both =
    at (is_in_both more mask p) (is_set words p) old both
  where
    at : (both set : Bool) → (both && not set) ≡ false → both ≡ true → set ≡ true
    at true true old both = refl
    at true false old both = absurd (true≢false old)
    at false set old both = absurd (false≢true both)

fresh_both : (words more mask : List ℕ) (p : ℕ) → is_fresh words more mask p ≡ true
    → (is_in_both more mask p ≡ true) × (is_set words p ≡ false)
fresh_both words more mask p fresh = at (is_in_both more mask p) (is_set words p) fresh
  where
    at : (both set : Bool) → (both && not set) ≡ true → (both ≡ true) × (set ≡ false)
    at true true fresh = absurd (false≢true fresh)
    at true false fresh = (refl, refl)
    at false set fresh = absurd (false≢true fresh)

-- the rows show a fact of a row where its bit is set
shown_there : (rows : List Row) (count : ℕ) (facts : List Fact) → Shows rows count facts
    → (g : Fact) (row : ℕ) → is_in_row row g ≡ true
    → has facts g ≡ is_set (words_of rows row) (place_of g)
shown_there rows count facts shows g row there =
    let parts = and_parts (is_within g) (row_of g == row) there in
    shows.same g
    ∙ (ap (λ b. b && is_set (words_of rows (row_of g)) (place_of g)) parts.0
    ∙ ap (λ k. is_set (words_of rows k) (place_of g)) (eqb-true (row_of g) row parts.1))

-- one place more, of which nothing is new
passed : (had now in_row in_more : Bool) (p at : ℕ)
    → now ≡ (had || (in_row && (in_more && nat_lt p at)))
    → (in_row ≡ true → in_more ≡ true → p ≡ at → had ≡ true)
    → now ≡ (had || (in_row && (in_more && nat_lt p (at + 1))))
passed true now in_row in_more p at is old = is
passed false now false in_more p at is old = is
passed false now true false p at is old = is
passed false now true true p at is old = elim (cases_order p at) [
  | inl same ↦ absurd (false≢true (old refl refl same))
  | inr (inl low) ↦ is ∙ (lt-ltb p at low ∙ sym (lt-ltb p (at + 1) (omega arith)))
  | inr (inr high) ↦ is ∙ (le-ltb p at (omega arith) ∙ sym (le-ltb p (at + 1) (omega arith)))
]

module _ (row : ℕ) (more mask : List ℕ) (facts : List Fact) (rows : List Row) (count : ℕ)
    (there : row < limit_of_rows) (shows : Shows rows count facts) where
  none_before : JoinedBefore row (words_of rows row) more mask facts count 0
  none_before = record {
    joined = facts;
    ascending = shows.ascending;
    len = let none = fresh_none (words_of rows row) more mask 0 0
        (λ i low high. absurd (omega arith)) in let len = shows.len in omega (arith, none, len);
    members = λ g. sym (ap (λ b. has facts g
        || (is_in_row row g && (is_in_both more mask (place_of g) && b)))
        (le-ltb (place_of g) 0 (omega arith))
        ∙ nothing (has facts g) (is_in_row row g) (is_in_both more mask (place_of g)));
  }
    where
      nothing : (had in_row in_more : Bool) → (had || (in_row && (in_more && false))) ≡ had
      nothing true in_row in_more = refl
      nothing false true true = refl
      nothing false true false = refl
      nothing false false in_more = refl

  -- a fresh bit more
  fresh_joined : (at : ℕ) → at < limit_of_classes
      → is_fresh (words_of rows row) more mask at ≡ true
      → JoinedBefore row (words_of rows row) more mask facts count at
      → JoinedBefore row (words_of rows row) more mask facts count (at + 1)
  fresh_joined at below fresh before =
      let here = at_place row at there below in
      let both = fresh_both (words_of rows row) more mask at fresh in
      let in_row = here_in_row here.fact row here.within here.row_is in
      let old : has facts here.fact ≡ false = shown_there rows count facts shows here.fact row in_row
      ∙ (ap (is_set (words_of rows row)) here.place_is ∙ both.1) in
      let lacked : has before.joined here.fact ≡ false = before.members here.fact
      ∙ not_yet (has facts here.fact) (is_in_row row here.fact)
      (is_in_both more mask (place_of here.fact)) (nat_lt (place_of here.fact) at) old
      (le-ltb (place_of here.fact) at (let e = here.place_is in omega (arith, e))) in
      record {
        joined = with_fact before.joined here.fact;
        ascending = ascending_with before.joined here.fact before.ascending;
        len = let one = length_with before.joined here.fact lacked in
            let so_far = before.len in
            let more = fresh_yes (words_of rows row) more mask at fresh in
            omega (arith, one, so_far, more);
        members = λ g. joined_more (has facts g) (has before.joined g)
            (has (with_fact before.joined here.fact) g) (is_in_row row g)
            (is_in_both more mask (place_of g)) (place_of g) at at (before.members g)
            (has-with_fact before.joined here.fact g ∙ ap (λ b. b || has before.joined g)
            (same_at row at here.fact g here.within here.row_is here.place_is))
            (λ in_row same. ap (is_in_both more mask) same ∙ both.0)
            (λ in_row low below both. absurd (omega arith))
            (omega arith);
      }
    where
      here_in_row : (f : Fact) (k : ℕ) → IsWithin f → row_of f ≡ k → is_in_row k f ≡ true
      here_in_row f k within is = and_from _ _ within (eq-eqb (row_of f) k is)

      not_yet : (had in_row in_more low : Bool) → had ≡ false → low ≡ false
          → (had || (in_row && (in_more && low))) ≡ false
      not_yet had true true low e d = rw (e, d) refl
      not_yet had true false low e d = rw e refl
      not_yet had false in_more low e d = rw e refl

  -- a place more that is not fresh
  old_joined : (at : ℕ) → is_fresh (words_of rows row) more mask at ≡ false
      → JoinedBefore row (words_of rows row) more mask facts count at
      → JoinedBefore row (words_of rows row) more mask facts count (at + 1)
  old_joined at old before = record {
    joined = before.joined;
    ascending = before.ascending;
    len = let so_far = before.len in let same = fresh_no (words_of rows row) more mask at old in
        omega (arith, so_far, same);
    members = λ g. passed (has facts g) (has before.joined g) (is_in_row row g)
        (is_in_both more mask (place_of g)) (place_of g) at (before.members g)
        (λ in_row both same. shown_there rows count facts shows g row in_row
        ∙ (ap (is_set (words_of rows row)) same
        ∙ not_fresh (words_of rows row) more mask at old
        (ap (is_in_both more mask) (sym same) ∙ both)));
  }

  joined_before : (end : ℕ) → end ≤ limit_of_classes
      → JoinedBefore row (words_of rows row) more mask facts count end
  joined_before zero below = none_before
  joined_before (suc at) below =
      let before = joined_before at (omega arith) in
      let e : at + 1 ≡ suc at = omega arith in
      subst (JoinedBefore row (words_of rows row) more mask facts count) e
      (elim (cases_Bool (is_fresh (words_of rows row) more mask at)) [
        | inl fresh ↦ fresh_joined at (omega arith) fresh before
        | inr old ↦ old_joined at old before
      ])

  -- all of the row
  pub all_joined : (after_it : List Row)
      → HasRoom more mask (length (words_of rows row))
      → JoinedBits rows after_it row more mask
      → ShowJoined row more mask facts after_it (count
      + fresh_count (words_of rows row) more mask 0 (64 * length (words_of rows row)))
  all_joined after_it room put =
      let sized = shows.sized row in
      let end : 64 * length (words_of rows row) ≤ limit_of_classes = omega (arith, sized) in
      let all = joined_before (64 * length (words_of rows row)) end in
      record {
        joined = all.joined;
        shows = record {
          same = λ g. all.members g ∙ (ap (λ b. b || (is_in_row row g
              && (is_in_both more mask (place_of g) && low g))) (shows.same g)
              ∙ (shown (is_within g) (is_set (words_of rows (row_of g)) (place_of g))
              (row_of g == row) (is_in_both more mask (place_of g)) (low g)
              ∙ sym (ap (λ b. is_within g && b) (put.same (row_of g) (place_of g)))));
          ascending = all.ascending;
          len = all.len;
          few_rows = put.few_rows shows.few_rows;
          sized = put.sized shows.sized;
        };
        members = λ g. all.members g ∙ whole (has facts g) (is_in_row row g)
            (is_in_both more mask (place_of g)) (low g) (below g);
      }
    where
      low : Fact → Bool
      low g = nat_lt (place_of g) (64 * length (words_of rows row))

      shown : (within old here both low : Bool)
          → ((within && old) || ((within && here) && (both && low)))
          ≡ (within && (old || (here && (low && both))))
      shown true true here both low = refl
      shown true false true true true = refl
      shown true false true true false = refl
      shown true false true false true = refl
      shown true false true false false = refl
      shown true false false both low = refl
      shown false old here both low = refl

      whole : (had in_row both low : Bool) → (in_row ≡ true → both ≡ true → low ≡ true)
          → (had || (in_row && (both && low))) ≡ (had || (in_row && both))
      whole true in_row both low is = refl
      whole false true true low is = is refl refl
      whole false true false low is = refl
      whole false false both low is = refl

      below : (g : Fact) → is_in_row row g ≡ true
          → is_in_both more mask (place_of g) ≡ true → low g ≡ true
      below g in_row both =
          let parts = and_parts (is_within g) (row_of g == row) in_row in
          let p = (placed g parts.0).place in
          lt-ltb (place_of g) (64 * length (words_of rows row))
          (room (place_of g) both p)

-- both halves of a set whose rows have changed

whole_of : (rows others : List Fact) → IsAscending rows → IsAscending others
    → ((f : Fact) → IsTrue (has rows f) → IsWithin f)
    → ((f : Fact) → IsTrue (has others f) → is_within f ≡ false) → Whole rows others
whole_of rows [] up up_others within outside = (
  rows,
  record {
    same = λ f. sym (or-false (has rows f));
    within = within;
    outside = outside;
    len = omega arith;
    ascending = up;
    rows_ascending = up;
    others_ascending = refl;
  },
)
whole_of rows (f ∷ fs) up up_others within outside =
    let parts = and_parts (begins_after f fs) (are_ascending fs) up_others in
    let rest = whole_of rows fs up parts.1 within
    (λ g there. outside g (or_right (is_same g f) (has fs g) there)) in
    let out = outside f (or_left (is_same f f) (has fs f) (same_itself f)) in
    let one = one_list (with_fact fs f) (f ∷ fs) (ascending_with fs f parts.1) up_others
    (λ g. has-with_fact fs f g) in (
      with_fact rest.0 f,
      subst (λ xs. IsWhole rows xs (with_fact rest.0 f)) one
          (whole_with_other rows fs rest.0 rest.1 f out),
    )

-- the rows have those of a row that both have
abbrev pub HasJoined : ℕ → List ℕ → List ℕ → List Fact → List Fact → Type 0
HasJoined number more mask rows after_it =
    (g : Fact) → has after_it g
    ≡ (has rows g || (is_in_row number g && is_in_both more mask (place_of g)))

module _ (rows others facts : List Fact) (is : IsWhole rows others facts) (number : ℕ)
    (more mask : List ℕ) (after_it : List Fact) where
  pub whole_joined : {A E : Type 0} (r : Result A E)
      → OnOk r (HasJoined number more mask rows after_it) → OnErr r (after_it ≡ rows) → IsAscending after_it → Whole after_it others
  whole_joined (Ok a) ok err up =
      whole_of after_it others up is.others_ascending (λ g there.
      elim (or_cases (has rows g) (is_in_row number g && is_in_both more mask (place_of g))
      (subst IsTrue (ok g) there)) [
        | inl old ↦ is.within g old
        | inr new ↦ (and_parts (is_within g) (row_of g == number)
            (and_parts (is_in_row number g) (is_in_both more mask (place_of g)) new).0).0
      ]) is.outside
  whole_joined (Err e) ok err up =
      (facts, subst (λ fs. IsWhole fs others facts) (sym err) is)

  pub kept_joined : (row : Rows) → IsNumber row number → length more ≤ limit_of_words
      → (whole : Whole after_it others) → HasJoined number more mask rows after_it
      → (g : Fact) → has whole.0 g
      ≡ (has facts g || (is_of row g && is_in_both more mask (place_of g)))
  kept_joined row kept few whole joined g =
      whole.1.same g
      ∙ (ap (λ b. b || has others g) (joined g)
      ∙ (swapped (has rows g) (is_in_row number g && is_in_both more mask (place_of g))
      (has others g)
      ∙ (ap (λ b. b || (is_in_row number g && is_in_both more mask (place_of g))) (sym (is.same g))
      ∙ ap (λ b. has facts g || b)
      (part (is_within g) (is_of row g) (row_of g == number) (is_in_both more mask (place_of g))
      (nat_lt (place_of g) limit_of_classes) (kept.at g) (kept.within g) low))))
    where
      low : is_in_both more mask (place_of g) ≡ true → nat_lt (place_of g) limit_of_classes ≡ true
      low both = elim (cases_lt (place_of g) limit_of_classes) [
        | inl below ↦ lt-ltb (place_of g) limit_of_classes below
        | inr behind ↦ absurd (false≢true
            (sym (past more (place_of g) (omega (arith, few, behind)))
            ∙ (and_parts (is_set more (place_of g)) (is_set mask (place_of g)) both).0))
      ]

      swapped : (a b c : Bool) → ((a || b) || c) ≡ ((a || c) || b)
      swapped true b c = refl
      swapped false true true = refl
      swapped false true false = refl
      swapped false false true = refl
      swapped false false false = refl

      part : (within of here both low : Bool) → (within ≡ true → of ≡ here)
          → (of ≡ true → within ≡ low) → (both ≡ true → low ≡ true)
          → ((within && here) && both) ≡ (of && both)
      part true of here both low same there below = ap (λ b. b && both) (sym (same refl))
      part false false here both low same there below = refl
      part false true here true low same there below =
          absurd (false≢true (there refl ∙ below refl))
      part false true here false low same there below = refl
