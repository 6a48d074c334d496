-- A text cut at its first or its last line feed, and the line that a place of it is in.
use Rattle.std.proofs.Common.{◌≡◌, ◌≢◌, ℕ, suc, ◌+◌, ◌-◌, ◌<◌, ◌≤◌, ◌⊎◌, not, cond, eqb, true, false}
use Rattle.std.proofs.Common.{List, [], ◌∷◌, ◌++◌, length, drop, get_or, Some, None, refl}
use Rattle.std.proofs.Common.{ap, sym, ◌∙◌, inl, inr, arith, count_by}
use Rattle.std.specs.List.{before_first, after_first, after_last, position_or_len, onto_first}
use Rattle.std.specs.Str.Pattern.{RFindsChar}
use Rattle.std.proofs.lemmas.Bool.{ne_eqb, eq-eqb, eqb-true, cases_Bool}
use Rattle.std.proofs.lemmas.Bool.{not_from_false, not_from_true}
use Rattle.std.proofs.lemmas.List.{get_or-drop, length-drop, length-append, length_push, drop_at}
use Rattle.std.proofs.lemmas.List.{append_assoc, get_or-append_right}
use Rattle.std.proofs.lemmas.List.Sums.{suffix_len_is, count_by_more_yes, sum_by-append}
use Rattle.std.proofs.lemmas.List.Sums.{position_or_len_is}
use Rattle.std.proofs.lemmas.List.Sums.{sum_by-cons, sum_by-take-le}
use Rattle.std.proofs.lemmas.Str.Pattern.{NoCharPasses-char}
use Rattle.mrc_wiring_text.specs.Lexis.{lines}
use Rattle.mrc_wiring_text.proofs.LineLemmas.{lines-cons, lines_last}
use Rattle.mrc_place.specs.Spots.{is_feed}

pub lines_cut : (bs : List ℕ)
    → 0 < length bs
    → lines bs ≡ before_first is_feed bs ∷ lines (after_first is_feed bs)
lines_cut [] h = absurd (omega arith)
lines_cut (b ∷ bs) h = lines-cons b bs

pub lines_whole : (bs : List ℕ)
    → 0 < length bs
    → position_or_len is_feed bs ≡ length bs
    → lines bs ≡ bs ∷ []
lines_whole bs h e = lines_last bs (position_or_len is_feed bs) h refl (omega arith)

-- the first line feed is at a place that has one, if none is before it
pub feed_at : (bs : List ℕ) (at : ℕ)
    → at < length bs
    → ((k : ℕ) → k < at → get_or bs k 0 ≢ 10)
    → get_or bs at 0 ≡ 10
    → position_or_len is_feed bs ≡ at
feed_at bs at below none is =
    position_or_len_is is_feed bs at 0 (omega arith) (λ k h. ne_eqb (get_or bs k 0) 10 (none k h))
    (λ h. eq-eqb (get_or bs at 0) 10 is)

-- no line feed at all
pub feed_nowhere : (bs : List ℕ)
    → ((k : ℕ) → k < length bs → get_or bs k 0 ≢ 10)
    → position_or_len is_feed bs ≡ length bs
feed_nowhere bs none =
    position_or_len_is is_feed bs (length bs) 0 (omega arith)
    (λ k h. ne_eqb (get_or bs k 0) 10 (none k h))
    (λ h. absurd (omega arith))

-- no line feed from a place on, and one before it
pub last_feed : (bs : List ℕ) (n : ℕ)
    → n ≤ length bs
    → ((k : ℕ) → n ≤ k → k < length bs → get_or bs k 0 ≢ 10)
    → (0 < n → get_or bs (n - 1) 0 ≡ 10)
    → drop n bs ≡ after_last is_feed bs
last_feed bs n within none feed =
    let len = suffix_len_is (λ b. not (is_feed b)) bs n 0 within
    (λ k from below. not_from_false _ (ne_eqb (get_or bs k 0) 10 (none k from below)))
    (λ h. not_from_true _ (eq-eqb (get_or bs (n - 1) 0) 10 (feed h))) in
    ap (λ i. drop i bs) (omega (arith, len))

pub no_feed : (bs : List ℕ) → RFindsChar 10 bs None → bs ≡ after_last is_feed bs
no_feed bs none =
    last_feed bs 0 (omega arith)
    (λ k from below. NoCharPasses-char 10 bs k none (omega arith) below)
    (λ h. absurd (omega arith))

pub feed_before : (bs : List ℕ) (i j : ℕ)
    → RFindsChar 10 bs (Some (i, j))
    → i ≤ j
    → j ≤ length bs
    → drop j bs ≡ after_last is_feed bs
feed_before bs i j found order within =
    let ends : j ≡ i + 1 = found.1.ends in
    last_feed bs j within (λ k from below.
    let none = NoCharPasses-char 10 (drop j bs) (k - j) found.0 (omega arith)
    (omega (arith, length-drop j bs)) in
    let same : get_or (drop j bs) (k - j) 0 ≡ get_or bs k 0 =
    get_or-drop j bs (k - j) 0 ∙ ap (λ n. get_or bs n 0) (omega arith) in
    λ e. none (same ∙ e))
    (λ h. ap (λ n. get_or bs n 0) (omega arith) ∙ found.1.byte (omega arith))

-- ---- the line of a place

count_yes : (b : ℕ) (bs : List ℕ)
    → eqb b 10 ≡ true
    → count_by is_feed (b ∷ bs) ≡ 1 + count_by is_feed bs
count_yes b bs e =
    sum_by-cons (λ x. cond (eqb x 10) 1 0) b bs ∙ ap (λ c. cond c 1 0 + count_by is_feed bs) e

count_no : (b : ℕ) (bs : List ℕ)
    → eqb b 10 ≡ false
    → count_by is_feed (b ∷ bs) ≡ 0 + count_by is_feed bs
count_no b bs e =
    sum_by-cons (λ x. cond (eqb x 10) 1 0) b bs ∙ ap (λ c. cond c 1 0 + count_by is_feed bs) e

lines_yes : (b : ℕ) (bs : List ℕ) → eqb b 10 ≡ true → lines (b ∷ bs) ≡ [] ∷ lines bs
lines_yes b bs e = ap (λ c. cond c ([] ∷ lines bs) (onto_first b (lines bs))) e

lines_no : (b : ℕ) (bs : List ℕ) → eqb b 10 ≡ false → lines (b ∷ bs) ≡ onto_first b (lines bs)
lines_no b bs e = ap (λ c. cond c ([] ∷ lines bs) (onto_first b (lines bs))) e

-- The last line feed, and what is behind it.
pub record IsSplit (front pre rest : List ℕ) : Type 0 where
  pub parts : front ≡ pre ++ 10 ∷ rest
  pub none : count_by is_feed rest ≡ 0

split_feed : (front : List ℕ)
    → (count_by is_feed front ≡ 0)
    ⊎ ((pre : List ℕ) × (rest : List ℕ) × IsSplit front pre rest)
split_feed [] = inl refl
split_feed (b ∷ bs) =
    elim (split_feed bs) [
      | inr (pre, rest, split) ↦ inr (
        b ∷ pre,
        rest,
        record { parts = ap (λ s. b ∷ s) split.parts; none = split.none },
      )
      | inl none ↦ elim (cases_Bool (eqb b 10)) [
        | inl e ↦ inr (
          [],
          bs,
          record { parts = ap (λ x. x ∷ bs) (eqb-true b 10 e); none = none },
        )
        | inr e ↦ inl (omega (arith, count_no b bs e, none))
      ]
    ]

feeds_nowhere : (bs : List ℕ) (k : ℕ)
    → count_by is_feed bs ≡ 0
    → k < length bs
    → get_or bs k 0 ≢ 10
feeds_nowhere bs k none below e =
    let more = count_by_more_yes is_feed bs k 0 below (eq-eqb (get_or bs k 0) 10 e) in
    let less = sum_by-take-le (λ x. cond (eqb x 10) 1 0) bs (k + 1) in
    omega (arith, more, less, none)

no_feed_alone : (bs : List ℕ) → count_by is_feed bs ≡ 0 → after_last is_feed bs ≡ bs
no_feed_alone bs none =
    sym (last_feed bs 0 (omega arith)
    (λ k from below. feeds_nowhere bs k none below)
    (λ h. absurd (omega arith)))

behind_feed : (pre rest : List ℕ)
    → count_by is_feed rest ≡ 0
    → after_last is_feed (pre ++ 10 ∷ rest) ≡ rest
behind_feed pre rest none =
    let len = length-append pre (10 ∷ rest) in
    let same : drop (length pre + 1) (pre ++ 10 ∷ rest) ≡ rest =
    ap (λ s. drop (length pre + 1) s) (sym (append_assoc pre (10 ∷ []) rest))
    ∙ drop_at (pre ++ 10 ∷ []) rest (length pre + 1) (length_push pre 10) in
    let last : length pre + 1 - 1 - length pre ≡ 0 = omega arith in
    sym (last_feed (pre ++ 10 ∷ rest) (length pre + 1) (omega (arith, len))
    (λ k from below e.
    let place : length pre + 1 + (k - (length pre + 1)) ≡ k = omega arith in
    feeds_nowhere rest (k - (length pre + 1)) none (omega (arith, len))
    (ap (λ s. get_or s (k - (length pre + 1)) 0) (sym same)
    ∙ get_or-drop (length pre + 1) (pre ++ 10 ∷ rest) (k - (length pre + 1)) 0
    ∙ ap (λ n. get_or (pre ++ 10 ∷ rest) n 0) place ∙ e))
    (λ h. get_or-append_right pre (10 ∷ rest) (length pre) (length pre + 1 - 1) 0 refl
    (omega arith)
    ∙ ap (λ n. get_or (10 ∷ rest) n 0) last))
    ∙ same

onto_head : (b : ℕ) (parts : List (List ℕ))
    → get_or (onto_first b parts) 0 [] ≡ b ∷ get_or parts 0 []
onto_head b [] = refl
onto_head b (part ∷ parts) = refl

onto_later : (b : ℕ) (parts : List (List ℕ)) (i j : ℕ)
    → i ≡ suc j
    → get_or (onto_first b parts) i [] ≡ get_or parts i []
onto_later b [] i j e = rw e refl
onto_later b (part ∷ parts) i j e = rw e refl

onto_length : (b : ℕ) (parts : List (List ℕ)) → length parts ≤ length (onto_first b parts)
onto_length b [] = omega arith
onto_length b (part ∷ parts) = omega arith

-- the first of the lines, if a part without a line feed is before the rest
first_of_lines : (part back : List ℕ)
    → count_by is_feed part ≡ 0
    → get_or (lines (part ++ back)) 0 [] ≡ part ++ before_first is_feed back
first_of_lines [] [] none = refl
first_of_lines [] (b ∷ bs) none = ap (λ found. get_or found 0 []) (lines-cons b bs)
first_of_lines (b ∷ bs) back none =
    elim (cases_Bool (eqb b 10)) [
      | inl e ↦ absurd (omega (arith, none, count_yes b bs e))
      | inr e ↦ ap (λ found. get_or found 0 []) (lines_no b (bs ++ back) e)
          ∙ onto_head b (lines (bs ++ back))
          ∙ ap (λ s. b ∷ s) (first_of_lines bs back (omega (arith, none, count_no b bs e)))
    ]

-- the first of the lines behind a line feed
line_behind : (pre rest : List ℕ) (i : ℕ)
    → i ≡ count_by is_feed pre + 1
    → get_or (lines (pre ++ 10 ∷ rest)) i [] ≡ get_or (lines rest) 0 []
line_behind [] rest i e =
    let one : i ≡ 1 = omega (arith, e) in
    ap (λ n. get_or ([] ∷ lines rest) n []) one
line_behind (b ∷ bs) rest i e =
    elim (cases_Bool (eqb b 10)) [
      | inl same ↦
          let more = count_yes b bs same in
          let next : i ≡ suc (i - 1) = omega arith in
          ap (λ found. get_or found i []) (lines_yes b (bs ++ 10 ∷ rest) same)
          ∙ ap (λ n. get_or ([] ∷ lines (bs ++ 10 ∷ rest)) n []) next
          ∙ line_behind bs rest (i - 1) (omega (arith, e, more))
      | inr other ↦
          let none = count_no b bs other in
          let next : i ≡ suc (i - 1) = omega arith in
          ap (λ found. get_or found i []) (lines_no b (bs ++ 10 ∷ rest) other)
          ∙ onto_later b (lines (bs ++ 10 ∷ rest)) i (i - 1) next
          ∙ line_behind bs rest i (omega (arith, e, none))
    ]

pub feeds_within : (front back : List ℕ)
    → count_by is_feed front ≤ length (lines (front ++ back))
feeds_within [] back = omega arith
feeds_within (b ∷ bs) back =
    let ih = feeds_within bs back in
    elim (cases_Bool (eqb b 10)) [
      | inl e ↦ omega (
        arith,
        ih,
        count_yes b bs e,
        ap (λ found. length found) (lines_yes b (bs ++ back) e),
      )
      | inr e ↦ omega (
        arith,
        ih,
        count_no b bs e,
        ap (λ found. length found) (lines_no b (bs ++ back) e),
        onto_length b (lines (bs ++ back)),
      )
    ]

pub line_of_place : (front back : List ℕ)
    → get_or (lines (front ++ back)) (count_by is_feed front) []
    ≡ after_last is_feed front ++ before_first is_feed back
line_of_place front back =
    elim (split_feed front) [
      | inl none ↦ ap (λ n. get_or (lines (front ++ back)) n []) none
          ∙ first_of_lines front back none
          ∙ ap (λ s. s ++ before_first is_feed back) (sym (no_feed_alone front none))
      | inr (pre, rest, split) ↦
          let whole : front ++ back ≡ pre ++ 10 ∷ (rest ++ back) =
          ap (λ s. s ++ back) split.parts ∙ append_assoc pre (10 ∷ rest) back in
          let feed = count_yes 10 rest refl in
          let both = sum_by-append (λ b. cond (eqb b 10) 1 0) pre (10 ∷ rest) in
          let count : count_by is_feed front ≡ count_by is_feed pre + 1 =
          ap (λ s. count_by is_feed s) split.parts ∙ both ∙ omega (arith, feed, split.none) in
          ap (λ s. get_or (lines s) (count_by is_feed front) []) whole
          ∙ line_behind pre (rest ++ back) (count_by is_feed front) count
          ∙ first_of_lines rest back split.none
          ∙ ap (λ s. s ++ before_first is_feed back)
          (sym (ap (λ s. after_last is_feed s) split.parts ∙ behind_feed pre rest split.none))
    ]
