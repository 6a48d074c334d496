-- Rows of bits that say what classes take.
use Rattle.std.proofs.Common.{◌≡◌, ℕ, ◌+◌, ◌*◌, ◌/◌, ◌%◌, ◌<◌, ◌≤◌, ◌==◌, Bool, true, false}
use Rattle.std.proofs.Common.{Vec}
use Rattle.std.proofs.Common.{List, [], ◌∷◌, ◌++◌, length, replicate, Some, Option}
use Rattle.std.proofs.Common.{refl, ap, sym, subst, ◌∙◌, inl, inr, arith}
use Rattle.std.specs.Prelude.{◌||◌, ◌&&◌, nat_lt, unwrap_or, option_map}
use Rattle.std.specs.declared.alloc.Global.{Global}
use Rattle.std.proofs.lemmas.Bool.{cases_eq, cases_lt, eq-eqb, ne_eqb, lt-ltb, le-ltb}
use Rattle.std.proofs.lemmas.Option.{slice_get-get_or}
use Rattle.std.proofs.lemmas.List.{get_or_append_left, get_or_push, length_push, length-replicate}
use Rattle.std.proofs.Math.Bool.{or-false}
use Rattle.mrc_base.specs.declared.PortRight.{PortRight}
use Rattle.mrc_base.specs.declared.PortRight.TheVariants.{Send, Receive, SendOnce}
use Rattle.mrc_base.specs.declared.Disp.{Disp}
use Rattle.mrc_wiring.specs.Slots.{takes}
use Rattle.mrc_facts.specs.Order.{right_number}
use Rattle.mrc_bits.specs.Bits.{is_set}
use Rattle.mrc_rows.specs.Rows.{words_of}
use Rattle.mrc_rows.proofs.Rows.{right_there, words_at, words_past, no_bit}
use Rattle.mrc_rows.proofs.Joins.{next_below}
use Rattle.mrc_model.specs.Wiring.{Wiring, classes, label}
use Rattle.mrc_slots.specs.Passing.{passes, is_passed}
use Rattle.mrc_slots.specs.Masks.{IsMask, AreMasks, AreFirst, is_taken, right_at, row_number}
use Rattle.mrc_slots.proofs.Passing.{same_label_passes, takes_below}

abbrev Row : Type 0
Row = Vec ℕ Global

-- one more number

none_below : (p : ℕ) → nat_lt p 0 ≡ false
none_below p = le-ltb p 0 (omega arith)

-- the bits of one row

pub none_marked : (test : ℕ → Bool) (n : ℕ) (row : List ℕ) → row ≡ replicate n 0
    → (p : ℕ) → is_set row p ≡ (nat_lt p 0 && test p)
none_marked test n row e p =
    ap (λ ws. is_set ws p) e ∙ (no_bit n p ∙ sym (ap (λ b. b && test p) (none_below p)))

pub zeros_long : (n : ℕ) (row : List ℕ) → row ≡ replicate n 0 → length row ≡ n
zeros_long n row e = ap length e ∙ length-replicate {A = ℕ} n 0

pub one_marked : (test : ℕ → Bool) (n : ℕ) (row marked : List ℕ)
    → ((p : ℕ) → is_set row p ≡ (nat_lt p n && test p))
    → ((p : ℕ) → is_set marked p ≡ ((p == n && test n) || is_set row p))
    → (p : ℕ) → is_set marked p ≡ (nat_lt p (n + 1) && test p)
one_marked test n row marked so_far put p = elim (cases_eq p n) [
  | inl same ↦
      put p ∙ (ap (λ b. (b && test n) || is_set row p) (eq-eqb p n same)
      ∙ (ap (λ b. test n || b)
      (so_far p ∙ ap (λ b. b && test p) (le-ltb p n (omega (arith, same))))
      ∙ (or-false (test n)
      ∙ (ap test (sym same)
      ∙ sym (ap (λ b. b && test p) (lt-ltb p (n + 1) (omega (arith, same))))))))
  | inr other ↦
      put p ∙ (ap (λ b. (b && test n) || is_set row p) (ne_eqb p n other)
      ∙ (so_far p ∙ ap (λ b. b && test p) (sym (next_below p n other))))
]

pub all_marked : (test : ℕ → Bool) (at places n : ℕ) (row : List ℕ)
    → length row ≡ (places + 63) / 64 → n ≤ 1344 → at ≡ n → places ≡ n
    → ((p : ℕ) → is_set row p ≡ (nat_lt p at && test p)) → IsMask test n row
all_marked test at places n row wide few end same bits = record {
  few = omega arith;
  bits = λ p. bits p ∙ ap (λ m. nat_lt p m && test p) end;
}

-- the classes that are taken

or_classes : (n a b : Bool) → ((n && a) || (n && b)) ≡ (n && (a || b))
or_classes true a b = refl
or_classes false a b = refl

pub slot_mask : (W : Wiring) (d : ℕ) (x : Disp) (row zeros : List ℕ) → zeros ≡ replicate 21 0
    → length row ≡ length zeros
    → ((c : ℕ) → is_set row c ≡ (is_set zeros c || takes W d x c))
    → IsMask (takes W d x) (classes W) row
slot_mask W d x row zeros e wide bits = record {
  few = let l = zeros_long 21 zeros e in omega arith;
  bits = λ c. bits c ∙ (ap (λ b. b || takes W d x c) (ap (λ ws. is_set ws c) e ∙ no_bit 21 c)
      ∙ takes_below W d x c);
}

pub either_mask : (W : Wiring) (d : ℕ) (x y : Disp) (row one zeros : List ℕ)
    → zeros ≡ replicate 21 0 → length one ≡ length zeros → length row ≡ length one
    → ((c : ℕ) → is_set one c ≡ (is_set zeros c || takes W d x c))
    → ((c : ℕ) → is_set row c ≡ (is_set one c || takes W d y c))
    → IsMask (λ c. takes W d x c || takes W d y c) (classes W) row
either_mask W d x y row one zeros e wide wider first bits =
    let mask = slot_mask W d x one zeros e wide first in
    record {
      few = let l = zeros_long 21 zeros e in omega (arith, l, wide, wider);
      bits = λ c. bits c ∙ (ap (λ b. b || takes W d y c) (mask.bits c)
          ∙ (ap (λ b. (nat_lt c (classes W) && takes W d x c) || b) (takes_below W d y c)
          ∙ or_classes (nat_lt c (classes W)) (takes W d x c) (takes W d y c)));
    }

-- rows

words_else : (rows : List Row) (row : Row) (k : ℕ) → (k ≡ length rows → ⊥)
    → words_of (rows ++ row ∷ []) k ≡ words_of rows k
words_else rows row k other = elim (cases_lt k (length rows)) [
  | inl below ↦
      ap (λ (o : Option Row). unwrap_or (option_map (λ (r : Row). r.items) o) [])
      (slice_get-get_or (rows ++ row ∷ []) k row (let e = length_push rows row in omega arith)
      ∙ (ap (λ (r : Row). Some r) (get_or_append_left rows (row ∷ []) row k below)
      ∙ sym (slice_get-get_or rows k row below)))
  | inr past ↦
      words_past (rows ++ row ∷ []) k
      (let e = length_push rows row in omega (arith, past, other))
      ∙ sym (words_past rows k past)
]

words_last : (rows : List Row) (row : Row) (k : ℕ) → k ≡ length rows
    → words_of (rows ++ row ∷ []) k ≡ row.items
words_last rows row k at =
    words_at (rows ++ row ∷ []) k row (let e = length_push rows row in omega arith)
    (sym (get_or_push rows row row k (sym at)))

pub no_masks : (test : ℕ → ℕ → Bool) (n : ℕ) (rows : List Row) → rows ≡ []
    → AreMasks test 0 n rows
no_masks test n rows e = subst (AreMasks test 0 n) (sym e) (record {
  few = λ k. omega arith;
  bits = λ k p. no_bit 0 p ∙ sym (ap (λ b. b && (nat_lt p n && test k p)) (none_below k));
})

pub more_masks : (test : ℕ → ℕ → Bool) (m n : ℕ) (rows longer : List Row) (row : Row)
    → AreMasks test m n rows → length rows ≡ m → IsMask (test m) n row.items
    → longer ≡ rows ++ row ∷ [] → AreMasks test (m + 1) n longer
more_masks test m n rows longer row masks len mask pushed =
    subst (AreMasks test (m + 1) n) (sym pushed) (record {
      few = λ k. elim (cases_eq k m) [
        | inl same ↦
            subst (λ ws. length ws ≤ 21) (sym (words_last rows row k (same ∙ sym len))) mask.few
        | inr other ↦
            subst (λ ws. length ws ≤ 21)
            (sym (words_else rows row k (λ e. other (e ∙ len)))) (masks.few k)
      ];
      bits = λ k p. elim (cases_eq k m) [
        | inl same ↦
            ap (λ ws. is_set ws p) (words_last rows row k (same ∙ sym len))
            ∙ (mask.bits p ∙ (ap (λ i. nat_lt p n && test i p) (sym same)
            ∙ sym (ap (λ b. b && (nat_lt p n && test k p))
            (lt-ltb k (m + 1) (omega (arith, same))))))
        | inr other ↦
            ap (λ ws. is_set ws p) (words_else rows row k (λ e. other (e ∙ len)))
            ∙ (masks.bits k p
            ∙ ap (λ b. b && (nat_lt p n && test k p)) (sym (next_below k m other)))
      ];
    })

pub more_rows : (m : ℕ) (rows longer : List Row) (row : Row) → length rows ≡ m
    → longer ≡ rows ++ row ∷ [] → length longer ≡ m + 1
more_rows m rows longer row len pushed =
    ap length pushed ∙ (length_push rows row ∙ (let h = len in omega arith))

-- numbers of rows

number_at : (n : ℕ) → right_number (right_at n) ≡ n % 3
number_at n = elim (cases_eq (n % 3) 0) [
  | inl e ↦ rw e refl
  | inr more ↦ elim (cases_eq (n % 3) 1) [
    | inl e ↦ rw e refl
    | inr two ↦ let e : n % 3 ≡ 2 = omega (arith, more, two) in rw e refl
  ]
]

right_of_number : (n : ℕ) (r : PortRight) → n % 3 ≡ right_number r → right_at n ≡ r
right_of_number n Send e = rw e refl
right_of_number n Receive e = rw e refl
right_of_number n SendOnce e = rw e refl

class_of_row : (d : ℕ) (q g : PortRight) → row_number d q g / 9 ≡ d
class_of_row d q g = let x = right_there q in let y = right_there g in omega arith

held_of_row : (d : ℕ) (q g : PortRight) → right_at (row_number d q g / 3) ≡ q
held_of_row d q g =
    let x = right_there q in
    let y = right_there g in
    right_of_number (row_number d q g / 3) q (omega arith)

give_of_row : (d : ℕ) (q g : PortRight) → right_at (row_number d q g) ≡ g
give_of_row d q g =
    let x = right_there q in
    let y = right_there g in
    right_of_number (row_number d q g) g (omega arith)

below_row : (n d : ℕ) (q g : PortRight) → nat_lt (row_number d q g) (9 * n) ≡ nat_lt d n
below_row n d q g =
    let x = right_there q in
    let y = right_there g in
    elim (cases_lt d n) [
      | inl low ↦ lt-ltb (row_number d q g) (9 * n) (omega arith) ∙ sym (lt-ltb d n low)
      | inr high ↦ le-ltb (row_number d q g) (9 * n) (omega arith) ∙ sym (le-ltb d n high)
    ]

and_both : (a b c d s t : Bool) → a ≡ b → c ≡ d → s ≡ t → (a && (c && s)) ≡ (b && (d && t))
and_both a b c d s t x y z =
    ap (λ i. i && (c && s)) x ∙ (ap (λ i. b && (i && s)) y ∙ ap (λ i. b && (d && i)) z)

same_passes : (W : Wiring) (d e c b : ℕ) (q r g h : PortRight) → d ≡ e → c ≡ b → q ≡ r → g ≡ h
    → passes W d c q g ≡ passes W e b r h
same_passes W d e c b q r g h x y z w =
    ap (λ i. passes W i c q g) x
    ∙ (ap (λ i. passes W e i q g) y ∙ (ap (λ i. passes W e b i g) z ∙ ap (passes W e b r) w))

-- the row of an earlier class with the same label

pub same_row : (test : ℕ → ℕ → Bool) (m n j k : ℕ) (rows : List Row) (words : List ℕ)
    → AreMasks test m n rows → j < m → ((p : ℕ) → test j p ≡ test k p)
    → words ≡ words_of rows j → IsMask (test k) n words
same_row test m n j k rows words masks below same is = record {
  few = subst (λ ws. length ws ≤ 21) (sym is) (masks.few j);
  bits = λ p. ap (λ ws. is_set ws p) is
      ∙ (masks.bits j p ∙ (ap (λ b. b && (nat_lt p n && test j p)) (lt-ltb j m below)
      ∙ ap (λ b. nat_lt p n && b) (same p)));
}

pub alike_taken : (W : Wiring) (d k : ℕ) → label W d ≡ label W (k / 9) → (c : ℕ)
    → is_taken W (row_number d (right_at (k / 3)) (right_at k)) c ≡ is_taken W k c
alike_taken W d k same c =
    same_passes W _ d c c _ (right_at (k / 3)) _ (right_at k)
    (class_of_row d (right_at (k / 3)) (right_at k)) refl
    (held_of_row d (right_at (k / 3)) (right_at k)) (give_of_row d (right_at (k / 3)) (right_at k))
    ∙ same_label_passes W d (k / 9) c (right_at (k / 3)) (right_at k) same

pub alike_below : (d k : ℕ) → d < k / 9 → row_number d (right_at (k / 3)) (right_at k) < k
alike_below d k below =
    let x = number_at (k / 3) in
    let y = number_at k in
    let z : k ≡ 9 * (k / 9) + 3 * ((k / 3) % 3) + k % 3 = omega arith in
    omega (arith, below)

-- the first rows

pub no_rows : (test : ℕ → ℕ → Bool) (n : ℕ) (rows : List Row) → rows ≡ []
    → AreFirst test n 0 rows
no_rows test n rows e = record { masks = no_masks test n rows e; len = ap length e }

pub one_more_row : (test : ℕ → ℕ → Bool) (n m : ℕ) (rows longer : List Row) (row : Row)
    → AreFirst test n m rows → IsMask (test m) n row.items
    → longer ≡ rows ++ row ∷ [] → AreFirst test n (m + 1) longer
one_more_row test n m rows longer row first mask pushed = record {
  masks = more_masks test m n rows longer row first.masks first.len mask pushed;
  len = more_rows m rows longer row first.len pushed;
}

pub row_is : (words : List ℕ) (rows read : List Row) (number place : ℕ)
    → words ≡ words_of read number → read ≡ rows → number ≡ place → words ≡ words_of rows place
row_is words rows read number place is same at =
    is ∙ (ap (λ (ks : List Row). words_of ks number) same ∙ ap (words_of rows) at)

module _ (W : Wiring) (rows : List Row) where
  -- the bit of a class in the row of a class and two rights
  pub taken_bit : AreMasks (is_taken W) (9 * classes W) (classes W) rows
      → (d c : ℕ) (held give : PortRight)
      → is_set (words_of rows (row_number d held give)) c ≡ is_passed W d c held give
  taken_bit masks d c held give =
      masks.bits (row_number d held give) c
      ∙ and_both _ _ _ _ _ _ (below_row (classes W) d held give) refl
      (same_passes W _ d c c _ held _ give (class_of_row d held give) refl
      (held_of_row d held give) (give_of_row d held give))
