-- Rows of bits of what lines mark.
use Rattle.std.proofs.Common.{◌≡◌, ℕ, ◌*◌, ◌/◌, ◌%◌, ◌<◌, ◌≤◌, ◌==◌, arith, Bool, true, false, Vec}
use Rattle.std.proofs.Common.{List, [], ◌∷◌, ◌++◌, length, slice_index_or, Option, Some}
use Rattle.std.proofs.Common.{refl, ap, sym, subst, ◌∙◌, inl, inr}
use Rattle.std.specs.Prelude.{◌||◌, ◌&&◌, nat_lt, slice_set, option_map, unwrap_or}
use Rattle.std.specs.Prelude.{if◌then◌else◌}
use Rattle.std.specs.List.{list_any}
use Rattle.std.specs.declared.alloc.Global.{Global}
use Rattle.std.specs.Int.{bit_at}
use Rattle.std.proofs.lemmas.Bool.{cases_eq, cases_lt, eq-eqb, ne_eqb, lt-ltb, false≢true}
use Rattle.std.proofs.lemmas.List.{get_or_past, get_or_append_left, get_or_push, get_or-set_same}
use Rattle.std.proofs.lemmas.List.{get_or-set_other, length-set, length_push}
use Rattle.std.proofs.lemmas.Option.{slice_get-get_or, slice_get_past}
use Rattle.std.proofs.lemmas.Nat.Bits.{bit_at-zero}
use Rattle.std.proofs.lemmas.List.Folds.{list_any-append}
use Rattle.std.proofs.Math.Bool.{and-false}
use Rattle.mrc_bits.specs.Bits.{is_set}
use Rattle.mrc_bits.proofs.Counts.{past}
use Rattle.mrc_model.specs.Wiring.{is_line_of, admits_by}
use Rattle.mrc_wiring.specs.Marks.{AreMarked, AreWide, IsWide, MarksMore, is_marked, words_at}

abbrev Row : Type 0
Row = Vec ℕ Global

-- the words of a row

abbrev words_in : Option Row → List ℕ
words_in row = unwrap_or (option_map (λ (r : Row). r.items) row) []

pub words_there : (rows : List Row) (k : ℕ) (row : Row) → k < length rows
    → row ≡ slice_index_or rows k row → words_at rows k ≡ row.items
words_there rows k row below is =
    ap words_in (slice_get-get_or rows k row below ∙ ap (λ (r : Row). Some r) (sym is))

words_past : (rows : List Row) (k : ℕ) → length rows ≤ k → words_at rows k ≡ []
words_past rows k past = ap words_in (slice_get_past rows k past)

words_set : (rows : List Row) (k : ℕ) (row : Row) → k < length rows
    → words_at (slice_set rows k row) k ≡ row.items
words_set rows k row below =
    words_there (slice_set rows k row) k row (let e = length-set rows k row in omega arith)
    (sym (get_or-set_same rows k row row below))

words_other : (rows : List Row) (k j : ℕ) (row : Row) → (j ≡ k → ⊥)
    → words_at (slice_set rows k row) j ≡ words_at rows j
words_other rows k j row other =
    let e = length-set rows k row in
    elim (cases_lt j (length rows)) [
      | inl below ↦
          ap words_in (slice_get-get_or (slice_set rows k row) j row (omega arith)
          ∙ (ap (λ (r : Row). Some r) (get_or-set_other rows k j row row other)
          ∙ sym (slice_get-get_or rows j row below)))
      | inr past ↦
          words_past (slice_set rows k row) j (omega arith) ∙ sym (words_past rows j past)
    ]

-- a new row has no words, as there were none before
pub words_push : (rows : List Row) (row : Row) → row.items ≡ [] → (k : ℕ)
    → words_at (rows ++ row ∷ []) k ≡ words_at rows k
words_push rows row empty k =
    let e = length_push rows row in
    elim (cases_lt k (length rows)) [
      | inl below ↦
          ap words_in (slice_get-get_or (rows ++ row ∷ []) k row (omega arith)
          ∙ (ap (λ (r : Row). Some r) (get_or_append_left rows (row ∷ []) row k below)
          ∙ sym (slice_get-get_or rows k row below)))
      | inr past ↦ elim (cases_eq k (length rows)) [
        | inl same ↦
            words_there (rows ++ row ∷ []) k row (omega arith)
            (sym (get_or_push rows row row k (sym same)))
            ∙ (empty ∙ sym (words_past rows k past))
        | inr other ↦
            words_past (rows ++ row ∷ []) k (omega arith) ∙ sym (words_past rows k past)
      ]
    ]

-- no line yet

pub none_marked : (width places : ℕ) (rows : List Row) → rows ≡ [] → AreMarked width places [] rows
none_marked width places rows e = subst (AreMarked width places []) (sym e) (record {
  wide = λ k. refl;
  bits = λ k p. past [] p (omega arith) ∙ sym (and-false (nat_lt p places));
})

pub none_wide : (width : ℕ) (rows : List Row) → rows ≡ [] → AreWide width rows
none_wide width rows e = subst (AreWide width) (sym e) (λ k. inl refl)

-- one row is another

pub same_wide : (width : ℕ) (rows reached : List Row)
    → ((k : ℕ) → words_at reached k ≡ words_at rows k) → AreWide width rows → AreWide width reached
same_wide width rows reached same wide k = subst (IsWide width) (sym (same k)) (wide k)

pub set_wide : (width k : ℕ) (rows : List Row) (row : Row) → k < length rows → AreWide width rows
    → length row.items ≡ width → AreWide width (slice_set rows k row)
set_wide width k rows row below wide long j = elim (cases_eq j k) [
  | inl same ↦
      inr (ap (λ i. length (words_at (slice_set rows k row) i)) same
      ∙ (ap length (words_set rows k row below) ∙ long))
  | inr other ↦ subst (IsWide width) (sym (words_other rows k j row other)) (wide j)
]

-- one line more

or_true : (a q : Bool) → q ≡ true → (a || (q || false)) ≡ true
or_true true q e = refl
or_true false q e = rw e refl

or_false : (a q : Bool) → q ≡ false → (a || (q || false)) ≡ a
or_false true q e = refl
or_false false q e = rw e refl

marks_it : (a x q m : Bool) → q ≡ true
    → ((a && x) || (a && m)) ≡ (a && (x || ((q && m) || false)))
marks_it true true q m e = refl
marks_it true false q true e = rw e refl
marks_it true false q false e = rw e refl
marks_it false x q m e = refl

marks_none : (a x q m : Bool) → q ≡ false → (a && x) ≡ (a && (x || ((q && m) || false)))
marks_none true true q m e = refl
marks_none true false q m e = rw e refl
marks_none false x q m e = refl

pub one_more : (width places : ℕ) (rows reached : List Row) (line : ℕ × Option ℕ) (row : Row)
    → ((k : ℕ) → words_at reached k ≡ words_at rows k) → line.0 < length reached
    → length row.items ≡ width
    → ((p : ℕ) → is_set row.items p ≡ (is_set (words_at reached line.0) p
    || (nat_lt p places && is_marked p line.1)))
    → MarksMore width places rows line (slice_set reached line.0 row)
one_more width places rows reached line row same below long put lines are = record {
  wide = λ k. elim (cases_eq k line.0) [
    | inl at ↦
        ap (λ i. length (words_at (slice_set reached line.0 row) i)) at
        ∙ (ap length (words_set reached line.0 row below)
        ∙ (long ∙ sym (ap (λ (b : Bool). if b then width else 0)
        (list_any-append (is_line_of k) lines (line ∷ [])
        ∙ or_true (list_any (is_line_of k) lines) (line.0 == k) (eq-eqb line.0 k (sym at))))))
    | inr other ↦
        ap length (words_other reached line.0 k row other ∙ same k)
        ∙ (are.wide k ∙ sym (ap (λ (b : Bool). if b then width else 0)
        (list_any-append (is_line_of k) lines (line ∷ [])
        ∙ or_false (list_any (is_line_of k) lines) (line.0 == k)
        (ne_eqb line.0 k (λ e. other (sym e))))))
  ];
  bits = λ k p. elim (cases_eq k line.0) [
    | inl at ↦
        ap (λ i. is_set (words_at (slice_set reached line.0 row) i) p) at
        ∙ (ap (λ ws. is_set ws p) (words_set reached line.0 row below)
        ∙ (put p ∙ (ap (λ i. is_set i p || (nat_lt p places && is_marked p line.1))
        (ap (words_at reached) (sym at) ∙ same k)
        ∙ (ap (λ b. b || (nat_lt p places && is_marked p line.1)) (are.bits k p)
        ∙ (marks_it (nat_lt p places) (list_any (admits_by k p) lines) (line.0 == k)
        (is_marked p line.1) (eq-eqb line.0 k (sym at))
        ∙ sym (ap (λ b. nat_lt p places && b)
        (list_any-append (admits_by k p) lines (line ∷ []))))))))
    | inr other ↦
        ap (λ ws. is_set ws p) (words_other reached line.0 k row other ∙ same k)
        ∙ (are.bits k p
        ∙ (marks_none (nat_lt p places) (list_any (admits_by k p) lines) (line.0 == k)
        (is_marked p line.1) (ne_eqb line.0 k (λ e. other (sym e)))
        ∙ sym (ap (λ b. nat_lt p places && b)
        (list_any-append (admits_by k p) lines (line ∷ [])))))
  ];
}

-- a row that is joined to another

-- a bit stands in one of the words
set_within : (words : List ℕ) (p : ℕ) → is_set words p ≡ true → p < 64 * length words
set_within words p set = elim (cases_lt (p / 64) (length words)) [
  | inl below ↦ omega (arith, below)
  | inr past ↦
      absurd (false≢true (sym (ap (λ w. bit_at w (p % 64) == 1) (get_or_past words (p / 64) 0 past)
      ∙ ap (λ b. b == 1) (bit_at-zero (p % 64))) ∙ set))
]

-- all bits of a row that is no longer
pub joined_bit : (row more : List ℕ) (p : ℕ) → length row ≡ 21 → length more ≤ 21
    → (is_set row p || (nat_lt p (64 * length row) && (is_set more p && is_set more p)))
    ≡ (is_set row p || is_set more p)
joined_bit row more p wide few = ap (λ b. is_set row p || b) (both (is_set more p) refl)
  where
    both : (b : Bool) → is_set more p ≡ b
        → (nat_lt p (64 * length row) && (is_set more p && is_set more p)) ≡ is_set more p
    both true e =
        let below : p < 64 * length row =
        let w = set_within more p e in omega (arith, w, wide, few) in
        rw (lt-ltb p (64 * length row) below, e) refl
    both false e = rw e (and-false (nat_lt p (64 * length row)))
