-- Rows, and the facts that they show.
use Rattle.std.proofs.Common.{◌≡◌, ℕ, ◌+◌, ◌-◌, ◌*◌, ◌/◌, ◌%◌, ◌^◌, ◌<◌, ◌≤◌, Bool, true, false, List, [], ◌∷◌, ◌++◌, length, replicate, take, drop, slice_index, slice_index_or, slice_set, Option, Some, None, refl, ap, sym, subst, ◌∙◌, inl, inr, ◌⊎◌, arith, lit<, ◌==◌, Vec, IsTrue}
use Rattle.std.proofs.Math.Seq.{take-append_seam, get_or-append_right}
use Rattle.std.specs.Prelude.{◌||◌, ◌&&◌, slice_get, unwrap_or, option_map, nat_lt, not, IfSome, IfNone}
use Rattle.std.specs.declared.alloc.Global.{Global}
use Rattle.std.specs.declared.cmp.Ordering.{Ordering}
use Rattle.std.specs.Ordering.{nat_cmp, ordering_then, ordering_reverse, match_ordering, is_lt, is_eq}
use Rattle.std.specs.declared.cmp.Ordering.TheVariants.{Less, Equal, Greater}
use Rattle.std.specs.Int.{bit_at}
use Rattle.std.proofs.lemmas.Bool.{cases_eq, cases_order, cases_lt, cases_Bool, eq-eqb, ne_eqb, eqb-true, or_left, or_right, or_parts, and_parts, and_from, ltb-true, lt-ltb, le-ltb, true≢false, false_from_ne_true}
use Rattle.std.proofs.lemmas.Option.{slice_get-get_or, slice_get_past}
use Rattle.std.proofs.lemmas.Nat.Bits.{bit_at-zero}
use Rattle.std.proofs.lemmas.List.{get_or-set_same, get_or-set_other, length-set, get_or_past, get_or-replicate, length-replicate, get_or_append_left, get_or_push, length_push, length-append}
use Rattle.std.proofs.Math.Bool.{and-false}
use Rattle.mrc_base.specs.declared.Fact.{Fact}
use Rattle.mrc_base.specs.declared.Fact.TheVariants.{Hold, Carry, Backup}
use Rattle.mrc_base.specs.declared.PortRight.{PortRight}
use Rattle.mrc_base.specs.declared.PortRight.TheVariants.{Send, Receive, SendOnce}
use Rattle.mrc_facts.specs.Order.{fact_cmp, is_same, is_before, right_number, kind, first_number, second_number, last_byte}
use Rattle.mrc_facts.specs.Sets.{has, with_fact, first, after, begins_after, are_ascending, IsAscending}
use Rattle.mrc_facts.proofs.Total.{fact_total, exact, not_before, not_before_itself, equal_from_same, same_itself}
use Rattle.mrc_facts.proofs.Total.{same_right}
use Rattle.mrc_facts.proofs.Members.{one_list, has-with_fact, first_is_least, after_is_next, none_after}
use Rattle.mrc_facts.specs.Laws.{IsLeast, IsNext}
use Rattle.mrc_facts.proofs.Comparing.{cmp_less, three_less}
use Rattle.mrc_facts.proofs.Removing.{without, has-without, ascending-without, length-without}
use Rattle.mrc_bits.specs.Bits.{is_set}
use Rattle.mrc_base.specs.Limits.{limit_of_tasks}
use Rattle.mrc_rows.specs.Limits.{limit_of_classes, limit_of_words, limit_of_rows, limit_of_groups}
use Rattle.mrc_rows.specs.Limits.{first_row_of_carries, first_row_of_backups, first_group_of_backups}
use Rattle.mrc_rows.specs.Rows.{IsFrom, IsNextKey, NoKey, IsFirstFrom, NoneFrom, is_within, IsWithin, row_of, place_of, group_of, key_of, is_key, words_of, is_shown, SameBits, OneMoreBit, OneLessBit, start_group, start_key, Shows, Shown}

abbrev Row : Type 0
Row = Vec ℕ Global

-- the words of a row of a list

words_some : (rows : List Row) (k : ℕ) (row : Row) → slice_get rows k ≡ Some row → words_of rows k ≡ row.items
words_some rows k row e = ap (λ (o : Option Row). unwrap_or (option_map (λ (r : Row). r.items) o) []) e

pub words_at : (rows : List Row) (k : ℕ) (row : Row) → k < length rows → row ≡ slice_index_or rows k row → words_of rows k ≡ row.items
words_at rows k row below is = words_some rows k row (slice_get-get_or rows k row below ∙ ap (λ (r : Row). Some r) (sym is))

pub words_past : (rows : List Row) (k : ℕ) → length rows ≤ k → words_of rows k ≡ []
words_past rows k past = ap (λ (o : Option Row). unwrap_or (option_map (λ (r : Row). r.items) o) []) (slice_get_past rows k past)

pub words_set : (rows : List Row) (k : ℕ) (row : Row) → k < length rows → words_of (slice_set rows k row) k ≡ row.items
words_set rows k row below = words_at (slice_set rows k row) k row (let e = length-set rows k row in omega arith) (sym (get_or-set_same rows k row row below))

pub words_other : (rows : List Row) (k j : ℕ) (row : Row) → (j ≡ k → ⊥) → words_of (slice_set rows k row) j ≡ words_of rows j
words_other rows k j row other =
    elim (cases_lt j (length rows)) [
      | inl below ↦ ap (λ (o : Option Row). unwrap_or (option_map (λ (r : Row). r.items) o) []) (slice_get-get_or (slice_set rows k row) j row (let e = length-set rows k row in omega arith) ∙ (ap (λ (r : Row). Some r) (get_or-set_other rows k j row row other) ∙ sym (slice_get-get_or rows j row below)))
      | inr past ↦ words_past (slice_set rows k row) j (let e = length-set rows k row in omega arith) ∙ sym (words_past rows j past)
    ]

pub words_push : (rows : List Row) (row : Row) → row.items ≡ [] → (k : ℕ) → words_of (rows ++ row ∷ []) k ≡ words_of rows k
words_push rows row empty k =
    elim (cases_lt k (length rows)) [
      | inl below ↦ ap (λ (o : Option Row). unwrap_or (option_map (λ (r : Row). r.items) o) []) (slice_get-get_or (rows ++ row ∷ []) k row (let e = length_push rows row in omega arith) ∙ (ap (λ (r : Row). Some r) (get_or_append_left rows (row ∷ []) row k below) ∙ sym (slice_get-get_or rows k row below)))
      | inr past ↦ elim (cases_eq k (length rows)) [
        | inl same ↦ words_at (rows ++ row ∷ []) k row (let e = length_push rows row in omega arith) (sym (get_or_push rows row row k (sym same))) ∙ (empty ∙ sym (words_past rows k past))
        | inr other ↦ words_past (rows ++ row ∷ []) k (let e = length_push rows row in omega arith) ∙ sym (words_past rows k past)
      ]
    ]

-- the same bits

pub same_bits : (rows : List Row) → SameBits rows rows
same_bits rows = record { same = λ k i. refl; sized = λ s. s; few_rows = λ h. h }

pub same_pushed : (before rows : List Row) (row : Row) → SameBits before rows → row.items ≡ [] → length rows < limit_of_rows → SameBits before (rows ++ row ∷ [])
same_pushed before rows row same empty few = record {
  same = λ k i. ap (λ ws. is_set ws i) (words_push rows row empty k) ∙ same.same k i;
  sized = λ s k. subst (λ ws. length ws ≤ limit_of_words) (sym (words_push rows row empty k)) (same.sized s k);
  few_rows = λ h. let e = length_push rows row in omega arith;
}

pub no_bit : (n i : ℕ) → is_set (replicate n 0) i ≡ false
no_bit n i = ap (λ w. bit_at w (i % 64) == 1) zero_word ∙ ap (λ b. b == 1) (bit_at-zero (i % 64))
  where
    zero_word : slice_index (replicate n 0) (i / 64) ≡ 0
    zero_word = elim (cases_lt (i / 64) n) [
      | inl below ↦ get_or-replicate n (i / 64) 0 0 below
      | inr past ↦ get_or_past (replicate n 0) (i / 64) 0 (subst (λ m. m ≤ i / 64) (sym (length-replicate n 0)) past)
    ]

pub no_bit_in : (ws : List ℕ) (i : ℕ) → length ws ≡ 0 → is_set ws i ≡ false
no_bit_in [] i e = ap (λ b. b == 1) (bit_at-zero (i % 64))
no_bit_in (w ∷ ws) i e = absurd (omega arith)

-- zeros behind the words have no bits
pub no_more_bits : (words : List ℕ) (n i : ℕ) → is_set (words ++ replicate n 0) i ≡ is_set words i
no_more_bits words n i = elim (cases_lt (i / 64) (length words)) [
  | inl below ↦ ap (λ w. bit_at w (i % 64) == 1)
      (get_or_append_left words (replicate n 0) 0 (i / 64) below)
  | inr behind ↦
      ap (λ w. bit_at w (i % 64) == 1)
      (get_or-append_right words (replicate n 0) (i / 64) 0 behind
      ∙ zero_in (i / 64 - length words))
      ∙ sym (ap (λ w. bit_at w (i % 64) == 1) (get_or_past words (i / 64) 0 behind))
]
  where
    zero_in : (k : ℕ) → slice_index (replicate n 0) k ≡ 0
    zero_in k = elim (cases_lt k n) [
      | inl below ↦ get_or-replicate n k 0 0 below
      | inr past ↦ get_or_past (replicate n 0) k 0
          (subst (λ m. m ≤ k) (sym (length-replicate n 0)) past)
    ]

-- a row is made longer, to so many words
pub lengthened_to : (rows : List Row) (k count : ℕ) (row : Row) → k < length rows
    → length (words_of rows k) ≤ count
    → row.items ≡ words_of rows k ++ replicate (count - length (words_of rows k)) 0
    → length (words_of (slice_set rows k row) k) ≡ count
lengthened_to rows k count row below shorter is =
    let e = ap length (words_set rows k row below ∙ is) in
    let l = length-append (words_of rows k) (replicate (count - length (words_of rows k)) 0) in
    let z = length-replicate {A = ℕ} (count - length (words_of rows k)) 0 in
    omega (arith, e, l, z, shorter)

-- and shows the same
pub same_lengthened : (before rows : List Row) (k count : ℕ) (row : Row) → SameBits before rows
    → k < length rows → length (words_of rows k) ≤ count → count ≤ limit_of_words
    → row.items ≡ words_of rows k ++ replicate (count - length (words_of rows k)) 0
    → SameBits before (slice_set rows k row)
same_lengthened before rows k count row same below shorter within is = record {
  same = λ j i. same_at j i ∙ same.same j i;
  sized = λ s j. elim (cases_eq j k) [
    | inl e ↦ subst (λ n. length (words_of (slice_set rows k row) n) ≤ limit_of_words) (sym e)
        (let l = lengthened_to rows k count row below shorter is in omega (arith, l, within))
    | inr other ↦ subst (λ ws. length ws ≤ limit_of_words) (sym (words_other rows k j row other))
        (same.sized s j)
  ];
  few_rows = λ h. let e = length-set rows k row in let f = same.few_rows h in omega arith;
}
  where
    same_at : (j i : ℕ) → is_set (words_of (slice_set rows k row) j) i ≡ is_set (words_of rows j) i
    same_at j i = elim (cases_eq j k) [
      | inl e ↦ subst (λ n. is_set (words_of (slice_set rows k row) n) i ≡ is_set (words_of rows n) i)
          (sym e) (ap (λ ws. is_set ws i) (words_set rows k row below ∙ is)
          ∙ no_more_bits (words_of rows k) (count - length (words_of rows k)) i)
      | inr other ↦ ap (λ ws. is_set ws i) (words_other rows k j row other)
    ]

-- one more bit
pub one_more_bit : (rows : List Row) (k place : ℕ) (row : Row) → k < length rows → length row.items ≡ length (words_of rows k) → ((i : ℕ) → is_set row.items i ≡ (i == place || is_set (words_of rows k) i)) → OneMoreBit rows (slice_set rows k row) k place
one_more_bit rows k place row below as_long put = record {
  same = λ j i. elim (cases_eq j k) [
    | inl e ↦ rw (eq-eqb j k e, e, words_set rows k row below) (put i)
    | inr other ↦ rw (ne_eqb j k other, words_other rows k j row other) refl
  ];
  sized = λ s j. elim (cases_eq j k) [
    | inl e ↦ subst (λ n. n ≤ limit_of_words)
        (sym (ap (λ n. length (words_of (slice_set rows k row) n)) e
        ∙ (ap length (words_set rows k row below)
        ∙ (as_long ∙ ap (λ n. length (words_of rows n)) (sym e))))) (s j)
    | inr other ↦ subst (λ ws. length ws ≤ limit_of_words) (sym (words_other rows k j row other)) (s j)
  ];
  few_rows = λ h. let e = length-set rows k row in omega arith;
}

-- one less bit
pub one_less_bit : (rows : List Row) (k place : ℕ) (row : Row) → k < length rows → length row.items ≡ length (words_of rows k) → ((i : ℕ) → is_set row.items i ≡ (not (i == place) && is_set (words_of rows k) i)) → OneLessBit rows (slice_set rows k row) k place
one_less_bit rows k place row below as_long put = record {
  same = λ j i. elim (cases_eq j k) [
    | inl e ↦ rw (eq-eqb j k e, e, words_set rows k row below) (put i)
    | inr other ↦ rw (ne_eqb j k other, words_other rows k j row other) refl
  ];
  sized = λ s j. elim (cases_eq j k) [
    | inl e ↦ subst (λ n. n ≤ limit_of_words)
        (sym (ap (λ n. length (words_of (slice_set rows k row) n)) e
        ∙ (ap length (words_set rows k row below)
        ∙ (as_long ∙ ap (λ n. length (words_of rows n)) (sym e))))) (s j)
    | inr other ↦ subst (λ ws. length ws ≤ limit_of_words) (sym (words_other rows k j row other)) (s j)
  ];
  few_rows = λ h. let e = length-set rows k row in omega arith;
}

pub row_there : (rows : List Row) (k place : ℕ) → place < 64 * length (words_of rows k) → k < length rows
row_there rows k place h = elim (cases_lt k (length rows)) [ inl below ↦ below | inr past ↦ absurd (let e = ap length (words_past rows k past) in omega (arith, e)) ]

pub refilled : (n : ℕ) (ws items : List ℕ) → length ws ≡ n → take n (ws ++ drop (length ws) items) ≡ ws
refilled n ws items e = ap (λ m. take m (ws ++ drop (length ws) items)) (sym e) ∙ take-append_seam ws (drop (length ws) items)

-- facts and places

pub right_there : (r : PortRight) → right_number r < 3
right_there Send = lit< tt
right_there Receive = lit< tt
right_there SendOnce = lit< tt

-- the numbers of a fact that has a place
pub record IsPlaced (f : Fact) : Type 0 where
  pub row : row_of f < limit_of_rows
  pub place : place_of f < limit_of_classes

pub both : (a b c d : ℕ) → IsTrue (nat_lt a b && nat_lt c d) → (a < b) × (c < d)
both a b c d h = let p = and_parts (nat_lt a b) (nat_lt c d) h in (ltb-true a b p.0, ltb-true c d p.1)

pub placed : (f : Fact) → IsWithin f → IsPlaced f
placed (Hold t c r) h = let p = both t limit_of_tasks c limit_of_classes h in let q = right_there r in record { row = omega arith; place = omega arith }
placed (Carry d c r) h = let p = both d limit_of_classes c limit_of_classes h in let q = right_there r in record { row = omega arith; place = omega arith }
placed (Backup c d) h = let p = both c limit_of_classes d limit_of_classes h in record { row = omega arith; place = omega arith }

pub one_place : (f g : Fact) → IsWithin f → IsWithin g → row_of f ≡ row_of g → place_of f ≡ place_of g → f ≡ g
one_place (Hold t c r) (Hold u d q) a b e h =
    let x = right_there r in
    let y = right_there q in
    let same : t ≡ u = omega arith in
    let s = same_right r q (omega arith) in
    cc
one_place (Hold t c r) (Carry u d q) a b e h = let p = both t limit_of_tasks c limit_of_classes a in let x = right_there r in absurd (omega arith)
one_place (Hold t c r) (Backup u d) a b e h = let p = both t limit_of_tasks c limit_of_classes a in let x = right_there r in absurd (omega arith)
one_place (Carry t c r) (Hold u d q) a b e h = let p = both u limit_of_tasks d limit_of_classes b in let y = right_there q in absurd (omega arith)
one_place (Carry t c r) (Carry u d q) a b e h =
    let x = right_there r in
    let y = right_there q in
    let same : t ≡ u = omega arith in
    let s = same_right r q (omega arith) in
    cc
one_place (Carry t c r) (Backup u d) a b e h = let p = both t limit_of_classes c limit_of_classes a in let x = right_there r in absurd (omega arith)
one_place (Backup t c) (Hold u d q) a b e h = let p = both u limit_of_tasks d limit_of_classes b in let y = right_there q in absurd (omega arith)
one_place (Backup t c) (Carry u d q) a b e h = let p = both u limit_of_classes d limit_of_classes b in let y = right_there q in absurd (omega arith)
one_place (Backup t c) (Backup u d) a b e h = let same : t ≡ u = omega arith in cc

-- the two tests for one fact
pub same_place : (f g : Fact) → IsWithin f → IsWithin g → (row_of g == row_of f && place_of g == place_of f) ≡ is_same g f
same_place f g a b =
    elim (cases_Bool (is_same g f)) [
      | inl same ↦ let e = equal_from_same g f same in and_from _ _ (eq-eqb _ _ (ap row_of e)) (eq-eqb _ _ (ap place_of e)) ∙ sym same
      | inr other ↦ false_from_ne_true _ (λ h. let p = and_parts (row_of g == row_of f) (place_of g == place_of f) h in
          let e = one_place g f b a (eqb-true (row_of g) (row_of f) p.0) (eqb-true (place_of g) (place_of f) p.1) in
          true≢false (sym (subst (λ x. is_same g x ≡ true) e (same_itself g)) ∙ other)) ∙ sym other
    ]

-- what the rows show with one more bit
pub shown_more : (before after : List Row) (f : Fact) → IsWithin f → OneMoreBit before after (row_of f) (place_of f) → (g : Fact) → is_shown after g ≡ (is_same g f || is_shown before g)
shown_more before after f within more g =
    elim (cases_Bool (is_within g)) [
      | inl there ↦ rw there (more.same (row_of g) (place_of g) ∙ ap (λ b. b || is_set (words_of before (row_of g)) (place_of g)) (same_place f g within there))
      | inr outside ↦ rw outside (let e : is_same g f ≡ false = false_from_ne_true (is_same g f) (λ same. true≢false (sym (subst IsTrue (ap is_within (sym (equal_from_same g f same))) within) ∙ outside)) in rw e refl)
    ]

-- and with one less
pub shown_less : (before after : List Row) (f : Fact) → IsWithin f → OneLessBit before after (row_of f) (place_of f) → (g : Fact) → is_shown after g ≡ (not (is_same g f) && is_shown before g)
shown_less before after f within less g =
    elim (cases_Bool (is_within g)) [
      | inl there ↦ rw there (less.same (row_of g) (place_of g) ∙ ap (λ b. not b && is_set (words_of before (row_of g)) (place_of g)) (same_place f g within there))
      | inr outside ↦ rw outside (sym (and-false (not (is_same g f))))
    ]

-- sets

pub length_with : (fs : List Fact) (f : Fact) → has fs f ≡ false → length (with_fact fs f) ≡ length fs + 1
length_with [] f lacked = refl
length_with (g ∷ fs) f lacked =
    elim (fact_cmp f g) as (λ o. fact_cmp f g ≡ o → length (match_ordering o (f ∷ g ∷ fs) (g ∷ fs) (g ∷ with_fact fs f)) ≡ length (g ∷ fs) + 1) [
      | Less ↦ λ e. omega arith
      | Equal ↦ λ e. absurd (true≢false (sym (ap is_eq e) ∙ (or_parts (is_same f g) (has fs f) lacked).0))
      | Greater ↦ λ e. let more = length_with fs f (or_parts (is_same f g) (has fs f) lacked).1 in omega arith
    ] refl

begins_with : (g : Fact) (fs : List Fact) (f : Fact) → IsTrue (begins_after g fs) → IsTrue (is_before g f) → IsTrue (begins_after g (with_fact fs f))
begins_with g [] f before less = less
begins_with g (x ∷ fs) f before less =
    elim (fact_cmp f x) as (λ o. IsTrue (begins_after g (match_ordering o (f ∷ x ∷ fs) (x ∷ fs) (x ∷ with_fact fs f)))) [
      | Less ↦ less
      | Equal ↦ before
      | Greater ↦ before
    ]

pub ascending_with : (fs : List Fact) (f : Fact) → IsAscending fs → IsAscending (with_fact fs f)
ascending_with [] f ascending = refl
ascending_with (g ∷ fs) f ascending =
    let parts = and_parts (begins_after g fs) (are_ascending fs) ascending in
    elim (fact_cmp f g) as (λ o. fact_cmp f g ≡ o → IsAscending (match_ordering o (f ∷ g ∷ fs) (g ∷ fs) (g ∷ with_fact fs f))) [
      | Less ↦ λ e. and_from (is_before f g) (are_ascending (g ∷ fs)) (ap is_lt e) ascending
      | Equal ↦ λ e. ascending
      | Greater ↦ λ e. and_from (begins_after g (with_fact fs f)) (are_ascending (with_fact fs f)) (begins_with g fs f parts.0 (ap is_lt (fact_total.antisymm g f ∙ ap ordering_reverse e))) (ascending_with fs f parts.1)
    ] refl

pub one_shown : (rows : List Row) (m n : ℕ) (xs ys : List Fact) → Shows rows m xs → Shows rows n ys → xs ≡ ys
one_shown rows m n xs ys a b = one_list xs ys a.ascending b.ascending (λ f. a.same f ∙ sym (b.same f))

pub shows_same : (before after : List Row) (n : ℕ) (fs : List Fact) → SameBits before after → Shows before n fs → Shows after n fs
shows_same before after n fs same shows = record {
  same = λ f. shows.same f ∙ ap (λ b. is_within f && b) (sym (same.same (row_of f) (place_of f)));
  ascending = shows.ascending;
  len = shows.len;
  few_rows = same.few_rows shows.few_rows;
  sized = same.sized shows.sized;
}

pub shows_more : (before after : List Row) (n : ℕ) (fs : List Fact) (f : Fact) → IsWithin f → has fs f ≡ false → OneMoreBit before after (row_of f) (place_of f) → Shows before n fs → Shows after (n + 1) (with_fact fs f)
shows_more before after n fs f within lacked more shows = record {
  same = λ g. has-with_fact fs f g ∙ (ap (λ b. is_same g f || b) (shows.same g) ∙ sym (shown_more before after f within more g));
  ascending = ascending_with fs f shows.ascending;
  len = length_with fs f lacked ∙ ap (λ m. m + 1) shows.len;
  few_rows = more.few_rows shows.few_rows;
  sized = more.sized shows.sized;
}

pub with_there : (fs : List Fact) (f : Fact) → IsAscending fs → has fs f ≡ true → fs ≡ with_fact fs f
with_there fs f ascending there = one_list fs (with_fact fs f) ascending (ascending_with fs f ascending) (λ g. had g ∙ sym (has-with_fact fs f g))
  where
    had : (g : Fact) → has fs g ≡ (is_same g f || has fs g)
    had g = elim (cases_Bool (is_same g f)) [
      | inl same ↦ rw same (subst (λ x. has fs x ≡ true) (sym (equal_from_same g f same)) there)
      | inr other ↦ rw other refl
    ]

-- how many facts there can be

abbrev pub code : Fact → ℕ
code f = kind f * 2 ^ 40 + first_number f * 2 ^ 24 + second_number f * 2 ^ 8 + last_byte f

pub record IsCoded (f : Fact) : Type 0 where
  pub kind : kind f < 4
  pub first : first_number f < 2 ^ 16
  pub second : second_number f < 2 ^ 16
  pub last : last_byte f < 4

coded : (f : Fact) → IsWithin f → IsCoded f
coded (Hold t c r) h = let p = both t limit_of_tasks c limit_of_classes h in let q = right_there r in record { kind = lit< tt; first = omega arith; second = omega arith; last = omega arith }
coded (Carry t c r) h = let p = both t limit_of_classes c limit_of_classes h in let q = right_there r in record { kind = lit< tt; first = omega arith; second = omega arith; last = omega arith }
coded (Backup t c) h = let p = both t limit_of_classes c limit_of_classes h in record { kind = lit< tt; first = omega arith; second = omega arith; last = lit< tt }

code_less : (f g : Fact) → IsCoded f → IsCoded g → IsTrue (is_before f g) → code f < code g
code_less f g a b h =
    elim (cmp_less (kind f) (kind g) _ h) [
      | inl low ↦ omega (arith, a.first, a.second, a.last, b.first, b.second, b.last)
      | inr (same, rest) ↦ elim (cmp_less (first_number f) (first_number g) _ rest) [
        | inl low ↦ omega (arith, a.first, a.second, a.last, b.first, b.second, b.last)
        | inr (same_first, rest_second) ↦ elim (cmp_less (second_number f) (second_number g) _ rest_second) [
          | inl low ↦ omega (arith, a.last, b.last)
          | inr (same_second, last) ↦ elim (cases_order (last_byte f) (last_byte g)) [
            | inl e ↦ absurd (let x = rw (le-ltb (last_byte f) (last_byte g) (omega arith), eq-eqb (last_byte f) (last_byte g) e) at last in cc)
            | inr (inl low) ↦ omega arith
            | inr (inr high) ↦ absurd (let x = rw (le-ltb (last_byte f) (last_byte g) (omega arith), ne_eqb (last_byte f) (last_byte g) (omega arith)) at last in cc)
          ]
        ]
      ]
    ]

counted : (f : Fact) (fs : List Fact) → IsAscending (f ∷ fs) → ((g : Fact) → IsTrue (has (f ∷ fs) g) → IsCoded g) → code f + length (f ∷ fs) ≤ 2 ^ 42
counted f [] ascending all = let a = all f (or_left (is_same f f) false (same_itself f)) in omega (arith, a.kind, a.first, a.second, a.last)
counted f (g ∷ fs) ascending all =
    let parts = and_parts (is_before f g) (are_ascending (g ∷ fs)) ascending in
    let more = counted g fs parts.1 (λ h at. all h (or_right (is_same h f) (has (g ∷ fs) h) at)) in
    let less = code_less f g (all f (or_left (is_same f f) (has (g ∷ fs) f) (same_itself f))) (all g (or_right (is_same g f) (has (g ∷ fs) g) (or_left (is_same g g) (has fs g) (same_itself g)))) parts.0 in
    let one : length (f ∷ g ∷ fs) ≡ length (g ∷ fs) + 1 = omega arith in
    omega (arith, more, less, one)

pub few_shown : (rows : List Row) (n : ℕ) (fs : List Fact) → Shows rows n fs → n ≤ 2 ^ 42
few_shown rows n fs shows = subst (λ m. m ≤ 2 ^ 42) shows.len (few fs shows.ascending (λ g h. coded g (and_parts (is_within g) (is_set (words_of rows (row_of g)) (place_of g)) (subst IsTrue (shows.same g) h)).0))
  where
    few : (facts : List Fact) → IsAscending facts → ((g : Fact) → IsTrue (has facts g) → IsCoded g) → length facts ≤ 2 ^ 42
    few [] ascending all = omega arith
    few (f ∷ fs) ascending all = let h = counted f fs ascending all in omega (arith, h)

-- a set's value is what its rows show
pub view_of : (rows : List Row) (n : ℕ) (shown : Shown rows n) (fs : List Fact) → Shows rows n fs → shown.0 ≡ fs
view_of rows n shown fs shows = one_shown rows n n shown.0 fs shown.1 shows

pub shown_as : (rows : List Row) (n : ℕ) (shown : Shown rows n) (fs : List Fact) → shown.0 ≡ fs → Shows rows n fs
shown_as rows n shown fs e = subst (λ xs. Shows rows n xs) e shown.1

pub at_places : (before after : List Row) (f : Fact) (k i : ℕ) → k ≡ row_of f → i ≡ place_of f → OneMoreBit before after k i → OneMoreBit before after (row_of f) (place_of f)
at_places before after f k i a b more = subst (λ n. OneMoreBit before after n (place_of f)) a (subst (λ n. OneMoreBit before after k n) b more)

-- the list without a fact whose bit is cleared
pub removed_shows : (rows after_it : List Row) (m : ℕ) (fs : List Fact) (f : Fact) (k i : ℕ) → Shows rows m fs → has fs f ≡ true → k ≡ row_of f → i ≡ place_of f → OneLessBit rows after_it k i → Shows after_it (m - 1) (without fs f)
removed_shows rows after_it m fs f k i shows there row place less =
    let within = (and_parts (is_within f) (is_set (words_of rows (row_of f)) (place_of f)) (sym (shows.same f) ∙ there)).0 in
    let here = subst (λ n. OneLessBit rows after_it n (place_of f)) row (subst (λ n. OneLessBit rows after_it k n) place less) in
    record {
      same = λ g. has-without fs f shows.ascending g ∙ (ap (λ b. not (is_same g f) && b) (shows.same g) ∙ sym (shown_less rows after_it f within here g));
      ascending = ascending-without fs f shows.ascending;
      len = let e = length-without fs f there in let h = shows.len in omega arith;
      few_rows = here.few_rows shows.few_rows;
      sized = here.sized shows.sized;
    }

-- a place of a fact that is there is one of a row that is made
pub place_made : (rows : List Row) (m : ℕ) (fs : List Fact) (f : Fact) (k i : ℕ) → Shows rows m fs → has fs f ≡ true → k ≡ row_of f → i ≡ place_of f → i < 64 * length (words_of rows k)
place_made rows m fs f k i shows there row place =
    let parts = and_parts (is_within f) (is_set (words_of rows (row_of f)) (place_of f)) (sym (shows.same f) ∙ there) in
    subst (λ n. i < 64 * length (words_of rows n)) (sym row) (subst (λ n. n < 64 * length (words_of rows (row_of f))) (sym place)
    (elim (cases_lt (place_of f) (64 * length (words_of rows (row_of f)))) [
      | inl low ↦ low
      | inr high ↦ absurd (true≢false (sym parts.1 ∙ (ap (λ w. bit_at w (place_of f % 64) == 1) (get_or_past (words_of rows (row_of f)) (place_of f / 64) 0 (omega (arith, high))) ∙ ap (λ b. b == 1) (bit_at-zero (place_of f % 64)))))
    ]))

pub count_some : (rows : List Row) (m : ℕ) (fs : List Fact) (f : Fact) → Shows rows m fs → has fs f ≡ true → 0 < m
count_some rows m fs f shows there = let e = length-without fs f there in let h = shows.len in omega arith

-- the order of groups and keys is that of facts

-- f comes before g by groups, and after it by keys
abbrev pub Precedes : Fact → Fact → Type 0
Precedes f g = (group_of f < group_of g) ⊎ ((group_of f ≡ group_of g) × (key_of f < key_of g))

pub one_key : (f g : Fact) → IsWithin f → IsWithin g → group_of f ≡ group_of g → key_of f ≡ key_of g → f ≡ g
one_key (Hold t c r) (Hold u d q) a b e h =
    let x = right_there r in
    let y = right_there q in
    let same : c ≡ d = omega arith in
    let s = same_right r q (omega arith) in
    cc
one_key (Hold t c r) (Carry u d q) a b e h = let p = both t limit_of_tasks c limit_of_classes a in absurd (omega arith)
one_key (Hold t c r) (Backup u d) a b e h = let p = both t limit_of_tasks c limit_of_classes a in absurd (omega arith)
one_key (Carry t c r) (Hold u d q) a b e h = let p = both u limit_of_tasks d limit_of_classes b in absurd (omega arith)
one_key (Carry t c r) (Carry u d q) a b e h =
    let x = right_there r in
    let y = right_there q in
    let same : c ≡ d = omega arith in
    let same_row : t ≡ u = omega arith in
    let s = same_right r q (omega arith) in
    cc
one_key (Carry t c r) (Backup u d) a b e h = let p = both t limit_of_classes c limit_of_classes a in absurd (omega arith)
one_key (Backup t c) (Hold u d q) a b e h = let p = both u limit_of_tasks d limit_of_classes b in absurd (omega arith)
one_key (Backup t c) (Carry u d q) a b e h = let p = both u limit_of_classes d limit_of_classes b in absurd (omega arith)
one_key (Backup t c) (Backup u d) a b e h =
    let same : t ≡ u = omega arith in
    let place : c ≡ d = omega arith in
    cc

-- the bit of a fact's key is its bit
pub key_bit : (rows : List Row) (f : Fact) → IsWithin f → is_key rows (group_of f) (key_of f) ≡ is_set (words_of rows (row_of f)) (place_of f)
key_bit rows (Hold t c r) h =
    let p = both t limit_of_tasks c limit_of_classes h in
    let q = right_there r in
    let k : 3 * t + (3 * c + right_number r) % 3 ≡ 3 * t + right_number r = omega arith in
    let i : (3 * c + right_number r) / 3 ≡ c = omega arith in
    rw (lt-ltb t first_group_of_backups (omega arith), k, i) refl
key_bit rows (Carry d c r) h =
    let p = both d limit_of_classes c limit_of_classes h in
    let q = right_there r in
    let k : 3 * (limit_of_tasks + d) + (3 * c + right_number r) % 3 ≡ first_row_of_carries + 3 * d + right_number r = omega arith in
    let i : (3 * c + right_number r) / 3 ≡ c = omega arith in
    rw (lt-ltb (limit_of_tasks + d) first_group_of_backups (omega arith), k, i) refl
key_bit rows (Backup c d) h =
    let k : first_row_of_backups + ((first_group_of_backups + c) - first_group_of_backups) ≡ first_row_of_backups + c = omega arith in
    let m : (3 * d) % 3 ≡ 0 = omega arith in
    let i : (3 * d) / 3 ≡ d = omega arith in
    rw (le-ltb (first_group_of_backups + c) first_group_of_backups (omega arith), m, k, i) refl

-- and it is one of the groups
pub group_there : (f : Fact) → IsWithin f → group_of f < limit_of_groups
group_there (Hold t c r) h = let p = both t limit_of_tasks c limit_of_classes h in omega arith
group_there (Carry d c r) h = let p = both d limit_of_classes c limit_of_classes h in omega arith
group_there (Backup c d) h = let p = both c limit_of_classes d limit_of_classes h in omega arith

cmp_low : (m n : ℕ) (o : Ordering) → m < n → is_lt (ordering_then (nat_cmp m n) o) ≡ true
cmp_low m n o h = rw (lt-ltb m n h) refl

cmp_same : (m n : ℕ) (o : Ordering) → m ≡ n → ordering_then (nat_cmp m n) o ≡ o
cmp_same m n o h = rw (le-ltb m n (omega arith), eq-eqb m n h) refl

precedes_hold : (t c u d : ℕ) (r q : PortRight) → (t < u) ⊎ ((t ≡ u) × (3 * c + right_number r < 3 * d + right_number q)) → is_lt (ordering_then (nat_cmp t u) (ordering_then (nat_cmp c d) (nat_cmp (right_number r) (right_number q)))) ≡ true
precedes_hold t c u d r q (inl low) = cmp_low t u (ordering_then (nat_cmp c d) (nat_cmp (right_number r) (right_number q))) low
precedes_hold t c u d r q (inr (same, low)) =
    let x = right_there r in
    let y = right_there q in
    ap is_lt (cmp_same t u (ordering_then (nat_cmp c d) (nat_cmp (right_number r) (right_number q))) same) ∙ elim (cases_order c d) [
      | inl e ↦ ap is_lt (cmp_same c d (nat_cmp (right_number r) (right_number q)) e) ∙ (let h : right_number r < right_number q = omega arith in rw (lt-ltb (right_number r) (right_number q) h) refl)
      | inr (inl less) ↦ cmp_low c d (nat_cmp (right_number r) (right_number q)) less
      | inr (inr more) ↦ absurd (omega arith)
    ]

pub precedes_before : (f g : Fact) → IsWithin f → IsWithin g → Precedes f g → is_before f g ≡ true
precedes_before (Hold t c r) (Hold u d q) a b h = precedes_hold t c u d r q h
precedes_before (Hold t c r) (Carry u d q) a b h = refl
precedes_before (Hold t c r) (Backup u d) a b h = refl
precedes_before (Carry t c r) (Hold u d q) a b h = let p = both u limit_of_tasks d limit_of_classes b in absurd (elim h [ inl low ↦ omega arith | inr (same, low) ↦ omega arith ])
precedes_before (Carry t c r) (Carry u d q) a b h = precedes_hold t c u d r q (elim h [ inl low ↦ inl (omega arith) | inr (same, low) ↦ inr (omega arith, low) ])
precedes_before (Carry t c r) (Backup u d) a b h = refl
precedes_before (Backup t c) (Hold u d q) a b h = let p = both u limit_of_tasks d limit_of_classes b in absurd (elim h [ inl low ↦ omega arith | inr (same, low) ↦ omega arith ])
precedes_before (Backup t c) (Carry u d q) a b h = let p = both u limit_of_classes d limit_of_classes b in absurd (elim h [ inl low ↦ omega arith | inr (same, low) ↦ omega arith ])
precedes_before (Backup t c) (Backup u d) a b h = elim h [
  | inl low ↦ cmp_low t u (ordering_then (nat_cmp c d) (nat_cmp 0 0)) (omega arith)
  | inr (same, low) ↦ ap is_lt (cmp_same t u (ordering_then (nat_cmp c d) (nat_cmp 0 0)) (omega arith)) ∙ cmp_low c d (nat_cmp 0 0) (omega arith)
]

pub three_ways : (f g : Fact) → Precedes f g ⊎ (((group_of f ≡ group_of g) × (key_of f ≡ key_of g)) ⊎ Precedes g f)
three_ways f g = elim (cases_order (group_of f) (group_of g)) [
  | inl same ↦ elim (cases_order (key_of f) (key_of g)) [ inl e ↦ inr (inl (same, e)) | inr (inl low) ↦ inl (inr (same, low)) | inr (inr high) ↦ inr (inr (inr (sym same, high))) ]
  | inr (inl low) ↦ inl (inl low)
  | inr (inr high) ↦ inr (inr (inl high))
]

pub before_precedes : (f g : Fact) → IsWithin f → IsWithin g → is_before f g ≡ true → Precedes f g
before_precedes f g a b h = elim (three_ways f g) [
  | inl p ↦ p
  | inr (inl same) ↦ absurd (true≢false (sym h ∙ (ap (is_before f) (sym (one_key f g a b same.0 same.1)) ∙ not_before_itself f)))
  | inr (inr p) ↦ absurd (true≢false (sym h ∙ not_before g f (precedes_before g f b a p)))
]

pub neither_before : (f g : Fact) → is_before f g ≡ false → is_before g f ≡ false → f ≡ g
neither_before f g a b = elim (fact_cmp f g) as (λ o. fact_cmp f g ≡ o → f ≡ g) [
  | Less ↦ λ e. absurd (true≢false (sym (ap is_lt e) ∙ a))
  | Equal ↦ λ e. exact f g e
  | Greater ↦ λ e. absurd (true≢false (sym (ap is_lt (fact_total.antisymm g f ∙ ap ordering_reverse e)) ∙ b))
] refl

-- a shown fact has its bit set, and is within
pub shown_bit : (rows : List Row) (n : ℕ) (fs : List Fact) → Shows rows n fs → (h : Fact) → IsTrue (has fs h) → IsWithin h × (is_key rows (group_of h) (key_of h) ≡ true)
shown_bit rows n fs shows h there =
    let p = and_parts (is_within h) (is_set (words_of rows (row_of h)) (place_of h)) (subst IsTrue (shows.same h) there) in
    (p.0, key_bit rows h p.0 ∙ p.1)

pub first_from_key : (rows : List Row) (n : ℕ) (fs : List Fact) → Shows rows n fs → (group key : ℕ) (f : Fact) → IsWithin f → IsNextKey rows group key (group_of f) (key_of f) → IsFirstFrom fs group key f
first_from_key rows n fs shows group key f within next = record {
  member = subst IsTrue (sym (shows.same f)) (and_from (is_within f) (is_set (words_of rows (row_of f)) (place_of f)) within (sym (key_bit rows f within) ∙ next.set));
  within = within;
  from_there = next.from_there;
  least = λ h there from. let bit = shown_bit rows n fs shows h there in elim (three_ways h f) [
    | inl p ↦ absurd (true≢false (sym bit.1 ∙ next.first (group_of h) (key_of h) from p))
    | inr (inl same) ↦ ap (λ x. is_before x f) (one_key h f bit.0 within same.0 same.1) ∙ not_before_itself f
    | inr (inr p) ↦ not_before f h (precedes_before f h within bit.0 p)
  ];
}

pub none_from_key : (rows : List Row) (n : ℕ) (fs : List Fact) → Shows rows n fs → (group key : ℕ) → NoKey rows group key → NoneFrom fs group key
none_from_key rows n fs shows group key none h there from = let bit = shown_bit rows n fs shows h there in true≢false (sym bit.1 ∙ none (group_of h) (key_of h) (group_there h bit.0) from)

any_place : (k i : ℕ) → (0 < k) ⊎ ((0 ≡ k) × (0 ≤ i))
any_place k i = elim (cases_eq k 0) [ inl e ↦ inr (sym e, omega arith) | inr other ↦ inl (omega (arith, other)) ]

-- the least fact
pub is_first : (fs : List Fact) → IsAscending fs → (o : Option Fact) → IfSome o (IsFirstFrom fs 0 0) → IfNone o (NoneFrom fs 0 0) → o ≡ first fs
is_first fs ascending (Some f) found none = some_first fs f ascending (first_is_least fs ascending) found
  where
    some_first : (fs : List Fact) (f : Fact) → IsAscending fs → IfSome (first fs) (IsLeast fs) → IsFirstFrom fs 0 0 f → Some f ≡ first fs
    some_first [] f ascending least found = absurd (true≢false (sym found.member))
    some_first (g ∷ fs) f ascending least found = ap (λ (x : Fact). Some x) (neither_before f g (least.least f found.member) (found.least g least.member (any_place (group_of g) (key_of g))))
is_first [] ascending None found none = refl
is_first (g ∷ fs) ascending None found none = absurd (none g (or_left (is_same g g) (has fs g) (same_itself g)) (any_place (group_of g) (key_of g)))

-- where those behind f begin

from_hold : (t c u d : ℕ) (r q : PortRight) → is_lt (ordering_then (nat_cmp t u) (ordering_then (nat_cmp c d) (nat_cmp (right_number r) (right_number q)))) ≡ true → IsFrom t (3 * c + right_number r + 1) u (3 * d + right_number q)
from_hold t c u d r q e =
    let x = right_there r in
    let y = right_there q in
    elim (three_less t c (right_number r) u d (right_number q) e) [
      | inl low ↦ inl low
      | inr (same, inl low) ↦ inr (same, omega arith)
      | inr (same, inr (also, last)) ↦ inr (same, omega arith)
    ]

before_hold : (t c u d : ℕ) (r q : PortRight) → IsFrom t (3 * c + right_number r + 1) u (3 * d + right_number q) → is_lt (ordering_then (nat_cmp t u) (ordering_then (nat_cmp c d) (nat_cmp (right_number r) (right_number q)))) ≡ true
before_hold t c u d r q (inl low) = precedes_hold t c u d r q (inl low)
before_hold t c u d r q (inr (same, low)) = precedes_hold t c u d r q (inr (same, omega arith))

start_low : (n limit : ℕ) → n < limit → nat_lt n limit ≡ true
start_low n limit h = lt-ltb n limit h

start_high : (n limit : ℕ) → limit ≤ n → nat_lt n limit ≡ false
start_high n limit h = le-ltb n limit h

shift_from : (base a p b q : ℕ) → IsFrom a p b q → IsFrom (base + a) p (base + b) q
shift_from base a p b q (inl low) = inl (omega arith)
shift_from base a p b q (inr (same, low)) = inr (omega arith, low)

unshift_from : (base a p b q : ℕ) → IsFrom (base + a) p (base + b) q → IsFrom a p b q
unshift_from base a p b q (inl low) = inl (omega arith)
unshift_from base a p b q (inr (same, low)) = inr (omega arith, low)

from_low : (a p b q : ℕ) → a < b → IsFrom a p b q
from_low a p b q h = inl h

-- all of a later kind are from the first row of the next kind on
from_base : (base k i : ℕ) → base ≤ k → IsFrom base 0 k i
from_base base k i h = elim (cases_eq base k) [ inl e ↦ inr (e, omega arith) | inr other ↦ inl (omega (arith, h, other)) ]

not_from : (row place k i : ℕ) → k < row → IsFrom row place k i → ⊥
not_from row place k i h (inl low) = omega arith
not_from row place k i h (inr (same, low)) = omega arith

pub start_from : (f h : Fact) → IsWithin h → is_before f h ≡ true → IsFrom (start_group f) (start_key f) (group_of h) (key_of h)
start_from (Hold t c r) (Hold u d q) b e =
    let p = both u limit_of_tasks d limit_of_classes b in
    elim (cases_lt t limit_of_tasks) [
      | inl low ↦ rw (start_low t limit_of_tasks low) (from_hold t c u d r q e)
      | inr high ↦ elim (three_less t c (right_number r) u d (right_number q) e) [ inl less ↦ absurd (omega arith) | inr (same, rest) ↦ absurd (omega arith) ]
    ]
start_from (Hold t c r) (Carry u d q) b e = elim (cases_lt t limit_of_tasks) [
  | inl low ↦ rw (start_low t limit_of_tasks low) (inl (omega arith))
  | inr high ↦ rw (start_high t limit_of_tasks high) (from_base limit_of_tasks (limit_of_tasks + u) (3 * d + right_number q) (omega arith))
]
start_from (Hold t c r) (Backup u d) b e = elim (cases_lt t limit_of_tasks) [
  | inl low ↦ rw (start_low t limit_of_tasks low) (inl (omega arith))
  | inr high ↦ rw (start_high t limit_of_tasks high) (inl (omega arith))
]
start_from (Carry t c r) (Hold u d q) b e = absurd cc
start_from (Carry t c r) (Carry u d q) b e =
    let p = both u limit_of_classes d limit_of_classes b in
    elim (cases_lt t limit_of_classes) [
      | inl low ↦ rw (start_low t limit_of_classes low) (shift_from limit_of_tasks t (3 * c + right_number r + 1) u (3 * d + right_number q) (from_hold t c u d r q e))
      | inr high ↦ elim (three_less t c (right_number r) u d (right_number q) e) [ inl less ↦ absurd (omega arith) | inr (same, rest) ↦ absurd (omega arith) ]
    ]
start_from (Carry t c r) (Backup u d) b e = elim (cases_lt t limit_of_classes) [
  | inl low ↦ rw (start_low t limit_of_classes low) (inl (omega arith))
  | inr high ↦ rw (start_high t limit_of_classes high) (from_base first_group_of_backups (first_group_of_backups + u) (3 * d) (omega arith))
]
start_from (Backup t c) (Hold u d q) b e = absurd cc
start_from (Backup t c) (Carry u d q) b e = absurd cc
start_from (Backup t c) (Backup u d) b e = elim (three_less t c 0 u d 0 e) [
  | inl low ↦ inl (omega arith)
  | inr (same, inl low) ↦ inr (omega arith, omega arith)
  | inr (same, inr (also, last)) ↦ absurd (omega arith)
]

pub from_start : (f h : Fact) → IsWithin h → IsFrom (start_group f) (start_key f) (group_of h) (key_of h) → is_before f h ≡ true
from_start (Hold t c r) (Hold u d q) b e =
    let p = both u limit_of_tasks d limit_of_classes b in
    elim (cases_lt t limit_of_tasks) [
      | inl low ↦ before_hold t c u d r q (rw (start_low t limit_of_tasks low) at e)
      | inr high ↦ absurd (not_from limit_of_tasks 0 u (3 * d + right_number q) p.0 (rw (start_high t limit_of_tasks high) at e))
    ]
from_start (Hold t c r) (Carry u d q) b e = refl
from_start (Hold t c r) (Backup u d) b e = refl
from_start (Carry t c r) (Hold u d q) b e =
    let p = both u limit_of_tasks d limit_of_classes b in
    elim (cases_lt t limit_of_classes) [
      | inl low ↦ absurd (not_from (limit_of_tasks + t) (3 * c + right_number r + 1) u (3 * d + right_number q) (omega arith) (rw (start_low t limit_of_classes low) at e))
      | inr high ↦ absurd (not_from first_group_of_backups 0 u (3 * d + right_number q) (omega arith) (rw (start_high t limit_of_classes high) at e))
    ]
from_start (Carry t c r) (Carry u d q) b e =
    let p = both u limit_of_classes d limit_of_classes b in
    elim (cases_lt t limit_of_classes) [
      | inl low ↦ before_hold t c u d r q (unshift_from limit_of_tasks t (3 * c + right_number r + 1) u (3 * d + right_number q) (rw (start_low t limit_of_classes low) at e))
      | inr high ↦ absurd (not_from first_group_of_backups 0 (limit_of_tasks + u) (3 * d + right_number q) (omega arith) (rw (start_high t limit_of_classes high) at e))
    ]
from_start (Carry t c r) (Backup u d) b e = refl
from_start (Backup t c) (Hold u d q) b e = let p = both u limit_of_tasks d limit_of_classes b in absurd (not_from (first_group_of_backups + t) (3 * c + 1) u (3 * d + right_number q) (omega arith) e)
from_start (Backup t c) (Carry u d q) b e = let p = both u limit_of_classes d limit_of_classes b in absurd (not_from (first_group_of_backups + t) (3 * c + 1) (limit_of_tasks + u) (3 * d + right_number q) (omega arith) e)
from_start (Backup t c) (Backup u d) b e = elim (unshift_from first_group_of_backups t (3 * c + 1) u (3 * d) e) [
  | inl low ↦ cmp_low t u (ordering_then (nat_cmp c d) (nat_cmp 0 0)) low
  | inr (same, low) ↦ ap is_lt (cmp_same t u (ordering_then (nat_cmp c d) (nat_cmp 0 0)) same) ∙ cmp_low c d (nat_cmp 0 0) (omega arith)
]

-- the least fact behind f
module _ (fs : List Fact) (ascending : IsAscending fs)
    (within : (h : Fact) → IsTrue (has fs h) → IsWithin h) (f : Fact) where
  start_of : (h : Fact) → IsTrue (has fs h) → is_before f h ≡ true
      → IsFrom (start_group f) (start_key f) (group_of h) (key_of h)
  start_of h there behind = start_from f h (within h there) behind

  later : (g : Fact) → IsFirstFrom fs (start_group f) (start_key f) g → is_before f g ≡ true
  later g x = from_start f g x.within x.from_there

  pub is_after : (o : Option Fact) → IfSome o (IsFirstFrom fs (start_group f) (start_key f))
      → IfNone o (NoneFrom fs (start_group f) (start_key f)) → o ≡ after fs f
  is_after o found none = go o (after fs f) refl found none (after_is_next fs f ascending)
    where
      go : (o p : Option Fact) → after fs f ≡ p
          → IfSome o (IsFirstFrom fs (start_group f) (start_key f))
          → IfNone o (NoneFrom fs (start_group f) (start_key f)) → IfSome p (IsNext fs f) → o ≡ p
      go None None e found none next = refl
      go None (Some g) e found none next =
          absurd (none g next.member (start_of g next.member next.later))
      go (Some g) None e found none next =
          absurd (true≢false (sym (later g found) ∙ none_after fs f e g found.member))
      go (Some g) (Some h) e found none next =
          ap (λ (x : Fact). Some x) (neither_before g h
          (next.least g found.member (later g found))
          (found.least h next.member (start_of h next.member next.later)))

pub shows_none : (rows : List Row) → rows ≡ [] → Shows rows 0 []
shows_none rows e = subst (λ xs. Shows xs 0 []) (sym e) (record {
  same = λ f. sym (nothing_shown (is_within f) (is_set [] (place_of f)) (no_bit_in [] (place_of f) refl));
  ascending = refl;
  len = refl;
  few_rows = omega arith;
  sized = λ k. omega arith;
})
  where
    nothing_shown : (a b : Bool) → b ≡ false → (a && b) ≡ false
    nothing_shown true b e = e
    nothing_shown false b e = refl
