-- The rows of a group, side by side.
use Rattle.std.proofs.Common.{◌≡◌, ℕ, ◌+◌, ◌-◌, ◌*◌, ◌/◌, ◌%◌, ◌<◌, ◌≤◌, ◌==◌, Bool, true, false}
use Rattle.std.proofs.Common.{Vec, List, [], ◌∷◌, length, slice_index, refl, ap, sym, ◌∙◌, inl, inr}
use Rattle.std.proofs.Common.{arith, zero, suc, cond}
use Rattle.std.specs.Prelude.{◌||◌, IfSome, IfNone, Option, Some, None}
use Rattle.std.specs.Int.{bit_at}
use Rattle.std.specs.Int.Bits.{bit_or}
use Rattle.std.specs.declared.alloc.Global.{Global}
use Rattle.std.proofs.lemmas.Bool.{cases_eq, cases_lt, ne_eqb, lt-ltb, le-ltb, true≢false}
use Rattle.std.proofs.lemmas.Nat.Bits.{bit_at_or}
use Rattle.mrc_base.specs.declared.PortRight.{PortRight}
use Rattle.mrc_facts.specs.Order.{right_number}
use Rattle.mrc_bits.specs.Bits.{is_set, IsNextBit}
use Rattle.mrc_bits.proofs.Words.{bit_cases}
use Rattle.mrc_bits.proofs.Counts.{past}
use Rattle.mrc_rows.specs.Limits.{limit_of_classes, limit_of_words, first_group_of_backups}
use Rattle.mrc_rows.specs.Limits.{first_row_of_backups}
use Rattle.mrc_rows.specs.Rows.{AreSized, words_of, plane_of, is_key}
use Rattle.mrc_rows.specs.Planes.{plane, has_class, is_in, place_key}
use Rattle.mrc_rows.specs.Planes.{IsFirstBy, NoneBy, IsFirstRight}
use Rattle.mrc_rows.specs.declared.planes.Planes.{Planes}
use Rattle.mrc_rows.proofs.Rows.{right_there}

-- a bit of three words together

or_bit : (a b i : ℕ) → (bit_at (bit_or a b) i == 1) ≡ (bit_at a i == 1 || bit_at b i == 1)
or_bit a b i = ap (λ n. n == 1) (bit_at_or a b i) ∙ elim (bit_cases a i) [
  | inl off ↦ elim (bit_cases b i) [ inl e ↦ rw (off, e) refl | inr e ↦ rw (off, e) refl ]
  | inr on ↦ elim (bit_cases b i) [ inl e ↦ rw (on, e) refl | inr e ↦ rw (on, e) refl ]
]

or_left_of : (a b c : Bool) → ((a || b) || c) ≡ (a || (b || c))
or_left_of true b c = refl
or_left_of false b c = refl

set_in : (words : List ℕ) (k i : ℕ) → i < 64
    → is_set words (64 * k + i) ≡ (bit_at (slice_index words k) i == 1)
set_in words k i low =
    let d : (64 * k + i) / 64 ≡ k = omega arith in
    let m : (64 * k + i) % 64 ≡ i = omega arith in
    rw (d, m) refl

pub three_words : (planes : Planes) (k i : ℕ) → i < 64
    → (bit_at (bit_or (bit_or (slice_index planes.send.now k) (slice_index planes.receive.now k))
    (slice_index planes.once.now k)) i == 1) ≡ has_class planes (64 * k + i)
three_words planes k i low =
    let send = slice_index planes.send.now k in
    let receive = slice_index planes.receive.now k in
    let once = slice_index planes.once.now k in
    or_bit (bit_or send receive) once i
    ∙ (ap (λ b. b || bit_at once i == 1) (or_bit send receive i)
    ∙ (or_left_of (bit_at send i == 1) (bit_at receive i == 1) (bit_at once i == 1)
    ∙ rw (
      set_in planes.send.now k i low,
      set_in planes.receive.now k i low,
      set_in planes.once.now k i low,
    ) refl))

-- the next class, word by word

one_word : (w i : ℕ) → i < 64 → is_set (w ∷ []) i ≡ (bit_at w i == 1)
one_word w i low =
    let d : i / 64 ≡ 0 = omega arith in
    let m : i % 64 ≡ i = omega arith in
    rw (d, m) refl

-- no class up to a place has a bit
abbrev pub NoClass : Planes → ℕ → ℕ → Type 0
NoClass planes from end = (j : ℕ) → from ≤ j → j < end → has_class planes j ≡ false

module _ (planes : Planes) (from place start w : ℕ) (none : NoClass planes from (64 * place + start))
    (word : (i : ℕ) → i < 64 → (bit_at w i == 1) ≡ has_class planes (64 * place + i)) where
  word_at : (j : ℕ) → 64 * place ≤ j → j < 64 * place + 64
      → is_set (w ∷ []) (j - 64 * place) ≡ has_class planes j
  word_at j low high =
      let e : 64 * place + (j - 64 * place) ≡ j = omega arith in
      one_word w (j - 64 * place) (omega arith)
      ∙ (word (j - 64 * place) (omega arith) ∙ ap (has_class planes) e)

  pub class_found : (bit : ℕ) → from ≤ 64 * place + start → IsNextBit (w ∷ []) start bit
      → IsFirstBy (has_class planes) from (64 * place + bit)
  class_found bit above next = elim (cases_lt bit 64) [
    | inl low ↦ let behind = next.from_there in record {
      from_there = omega (arith, behind, above);
      set = sym (word bit low) ∙ (sym (one_word w bit low) ∙ next.set);
      first = λ j from_there under. elim (cases_lt j (64 * place + start)) [
        | inl before ↦ none j from_there before
        | inr here ↦ sym (word_at j (omega arith) (omega arith))
            ∙ next.first (j - 64 * place) (omega arith) (omega arith)
      ];
    }
    | inr high ↦ absurd (true≢false (sym next.set ∙ past (w ∷ []) bit (omega arith)))
  ]

  pub word_passed : ((i : ℕ) → start ≤ i → is_set (w ∷ []) i ≡ false)
      → NoClass planes from (64 * (place + 1) + 0)
  word_passed nothing j from_there under = elim (cases_lt j (64 * place + start)) [
    | inl before ↦ none j from_there before
    | inr here ↦ sym (word_at j (omega arith) (omega arith)) ∙ nothing (j - 64 * place) (omega arith)
  ]

-- none behind the last word
pub no_class_left : (planes : Planes) (from place start : ℕ) → limit_of_words ≤ place
    → length planes.send.now ≤ limit_of_words → length planes.receive.now ≤ limit_of_words
    → length planes.once.now ≤ limit_of_words
    → NoClass planes from (64 * place + start) → NoneBy (has_class planes) from
no_class_left planes from place start end send receive once none j from_there =
    elim (cases_lt j (64 * place + start)) [
      | inl before ↦ none j from_there before
      | inr behind ↦ rw (
        past planes.send.now j (omega arith),
        past planes.receive.now j (omega arith),
        past planes.once.now j (omega arith),
      ) refl
    ]

-- keys by their classes

plane_none : (planes : Planes) (class q : ℕ) → has_class planes class ≡ false
    → is_set (plane planes q) class ≡ false
plane_none planes class q none =
    let parts = neither (is_set planes.send.now class) (is_set planes.receive.now class)
    (is_set planes.once.now class) none in
    elim (cases_eq q 0) [
      | inl e ↦ rw e parts.0
      | inr first ↦ elim (cases_eq q 1) [
        | inl e ↦ rw e parts.1
        | inr second ↦ rw (ne_eqb q 0 first, ne_eqb q 1 second) parts.2
      ]
    ]
  where
    neither : (a b c : Bool) → (a || (b || c)) ≡ false → (a ≡ false) × (b ≡ false) × (c ≡ false)
    neither true b c e = absurd (true≢false e)
    neither false true c e = absurd (true≢false e)
    neither false false c e = (refl, refl, e)

pub no_keys : (planes : Planes) (from : ℕ) → NoneBy (has_class planes) from
    → NoneBy (is_in planes) (3 * from)
no_keys planes from none key above =
    plane_none planes (key / 3) (key % 3) (none (key / 3) (omega arith))

-- the key of a right on a class
key_set : (planes : Planes) (class : ℕ) (right : PortRight)
    → is_in planes (place_key (class, right)) ≡ is_set (plane planes (right_number right)) class
key_set planes class right =
    let low = right_there right in
    let d : (3 * class + right_number right) / 3 ≡ class = omega arith in
    let m : (3 * class + right_number right) % 3 ≡ right_number right = omega arith in
    rw (d, m) refl

-- a key of the class is the one of its right
key_of_class : (planes : Planes) (key class : ℕ) → key / 3 ≡ class
    → is_in planes key ≡ is_set (plane planes (key % 3)) class
key_of_class planes key class e = ap (is_set (plane planes (key % 3))) e

pub place_found : (planes : Planes) (from class : ℕ) (right : PortRight)
    → IsFirstBy (has_class planes) from class → IsFirstRight planes class right
    → IsFirstBy (is_in planes) (3 * from) (place_key (class, right))
place_found planes from class right next first =
    let above = next.from_there in
    let few = right_there right in
    record {
      from_there = omega (arith, above);
      set = key_set planes class right ∙ first.set;
      first = λ j low under. elim (cases_lt (j / 3) class) [
        | inl before ↦
            plane_none planes (j / 3) (j % 3) (next.first (j / 3) (omega arith) before)
        | inr here ↦
            let e : j / 3 ≡ class = omega (arith, here, under, few) in
            key_of_class planes j class e ∙ first.first (j % 3) (omega (arith, e, under))
      ];
    }

pub right_found : (planes : Planes) (class : ℕ) (right next : PortRight)
    → right_number right < right_number next
    → is_set (plane planes (right_number next)) class ≡ true
    → ((q : ℕ) → right_number right < q → q < right_number next
    → is_set (plane planes q) class ≡ false)
    → IsFirstBy (is_in planes) (place_key (class, right) + 1) (place_key (class, next))
right_found planes class right next later set none =
    let few = right_there next in
    record {
      from_there = omega arith;
      set = key_set planes class next ∙ set;
      first = λ j low under.
          let e : j / 3 ≡ class = omega (arith, low, under, few) in
          key_of_class planes j class e
          ∙ none (j % 3) (omega (arith, e, low)) (omega (arith, e, under));
    }

-- no further right on the class
module _ (planes : Planes) (class : ℕ) (right : PortRight)
    (none : (q : ℕ) → right_number right < q → q < 3 → is_set (plane planes q) class ≡ false) where
  rest_of_class : (j : ℕ) → place_key (class, right) + 1 ≤ j → j < 3 * (class + 1)
      → is_in planes j ≡ false
  rest_of_class j low under =
      let few = right_there right in
      let e : j / 3 ≡ class = omega (arith, low, under) in
      key_of_class planes j class e ∙ none (j % 3) (omega (arith, e, low)) (omega arith)

  behind_class : (key : ℕ) → IsFirstBy (is_in planes) (3 * (class + 1)) key
      → IsFirstBy (is_in planes) (place_key (class, right) + 1) key
  behind_class key next =
      let few = right_there right in
      let above = next.from_there in
      record {
        from_there = omega (arith, above, few);
        set = next.set;
        first = λ j low under. elim (cases_lt j (3 * (class + 1))) [
          | inl here ↦ rest_of_class j low here
          | inr behind ↦ next.first j behind under
        ];
      }

  none_behind_class : NoneBy (is_in planes) (3 * (class + 1))
      → NoneBy (is_in planes) (place_key (class, right) + 1)
  none_behind_class nothing j low = elim (cases_lt j (3 * (class + 1))) [
    | inl here ↦ rest_of_class j low here
    | inr behind ↦ nothing j behind
  ]

  pub behind_found : (o : Option (ℕ × PortRight))
      → IfSome o (λ place. IsFirstBy (is_in planes) (3 * (class + 1)) (place_key place))
      → IfSome o (λ place.
      IsFirstBy (is_in planes) (place_key (class, right) + 1) (place_key place))
  behind_found None next = tt
  behind_found (Some place) next = behind_class (place_key place) next

  pub behind_none : (o : Option (ℕ × PortRight))
      → IfNone o (NoneBy (is_in planes) (3 * (class + 1)))
      → IfNone o (NoneBy (is_in planes) (place_key (class, right) + 1))
  behind_none None nothing = none_behind_class nothing
  behind_none (Some place) nothing = tt

-- the rows of a group of kept rows

-- each right is one of three
pub by_right : (P : ℕ → Type 0) → P 0 → P 1 → P 2 → (q : ℕ) → q < 3 → P q
by_right P send receive once zero low = send
by_right P send receive once (suc zero) low = receive
by_right P send receive once (suc (suc zero)) low = once
by_right P send receive once (suc (suc (suc q))) low = absurd (omega arith)

module _ (planes : Planes) (rows : List (Vec ℕ Global)) (k : ℕ)
    (are : (q : ℕ) → q < 3 → plane planes q ≡ plane_of rows k q) where
  same_key : (j : ℕ) → is_in planes j ≡ is_key rows k j
  same_key j = ap (λ ws. is_set ws (j / 3)) (are (j % 3) (omega arith))

  pub key_found : (from : ℕ) (o : Option (ℕ × PortRight))
      → IfSome o (λ place. IsFirstBy (is_in planes) from (place_key place))
      → IfSome o (λ place. IsFirstBy (is_key rows k) from (place_key place))
  key_found from None next = tt
  key_found from (Some place) next = record {
    from_there = next.from_there;
    set = sym (same_key (place_key place)) ∙ next.set;
    first = λ j low under. sym (same_key j) ∙ next.first j low under;
  }

  pub key_none : (from : ℕ) (o : Option (ℕ × PortRight)) → IfNone o (NoneBy (is_in planes) from)
      → IfNone o (NoneBy (is_key rows k) from)
  key_none from None none = λ j low. sym (same_key j) ∙ none j low
  key_none from (Some place) none = tt

-- a key whose bit is set
pub key_there : (rows : List (Vec ℕ Global)) (k key : ℕ) → AreSized rows
    → is_key rows k key ≡ true → key / 3 < limit_of_classes
key_there rows k key sized set = elim (cases_lt (key / 3) limit_of_classes) [
  | inl low ↦ low
  | inr high ↦ absurd (true≢false (sym set ∙ past (plane_of rows k (key % 3)) (key / 3)
      (let few = few_words (key % 3) in omega (arith, few, high))))
]
  where
    few_words : (q : ℕ) → length (plane_of rows k q) ≤ limit_of_words
    few_words q = elim (cases_lt k first_group_of_backups) [
      | inl low ↦ rw (lt-ltb k first_group_of_backups low) (sized (3 * k + q))
      | inr high ↦ rw (le-ltb k first_group_of_backups high) (backups q)
    ]
      where
        backups : (q : ℕ) → length (cond (q == 0)
            (words_of rows (first_row_of_backups + (k - first_group_of_backups))) []) ≤ limit_of_words
        backups q = elim (cases_eq q 0) [
          | inl e ↦ rw e (sized (first_row_of_backups + (k - first_group_of_backups)))
          | inr other ↦ rw (ne_eqb q 0 other) (omega arith)
        ]

-- a group of backups has keys of the first right alone
pub first_right_alone : (rows : List (Vec ℕ Global)) (k class : ℕ) (right : PortRight)
    → is_key rows k (place_key (class, right)) ≡ true → first_group_of_backups ≤ k
    → right_number right ≡ 0
first_right_alone rows k class right set high = elim (cases_eq (right_number right) 0) [
  | inl e ↦ e
  | inr other ↦
      let low = right_there right in
      let m : (3 * class + right_number right) % 3 ≡ right_number right = omega arith in
      absurd (true≢false (sym set ∙ rw (
        le-ltb k first_group_of_backups high,
        m,
        ne_eqb (right_number right) 0 other,
      ) (past [] ((3 * class + right_number right) / 3)
      (omega arith))))
]
