-- What an index of a space tells, and what it is after a change.
use Rattle.std.proofs.Common.{◌≡◌, ℕ, suc, ◌+◌, ◌/◌, ◌%◌, ◌<◌, ◌≤◌, Bool, true, false, not}
use Rattle.std.proofs.Common.{List, [], ◌∷◌, ◌^◌, length, T, Option, Some, None, refl, sym}
use Rattle.std.proofs.Common.{◌∙◌, ap, subst}
use Rattle.std.proofs.Common.{arith, ◌==◌, ◌&&◌, ◌||◌, inl, inr, nat_lt, if◌then◌else◌}
use Rattle.std.specs.Option.{is_some}
use Rattle.std.proofs.lemmas.Bool.{cases_eq, cases_order, ne_eqb, eq-eqb, lt-ltb, le-ltb}
use Rattle.std.proofs.lemmas.Bool.Decides.{nat_tests}
use Rattle.mrc_bits.specs.Bits.{is_set, IsNextBit}
use Rattle.std.proofs.lemmas.List.{get_or-replicate}
use Rattle.std.proofs.Math.ListN.{replicate}
use Rattle.std.proofs.lemmas.Nat.Bits.{bit_at_ones}
use Rattle.std.proofs.Common.{lit<}
use Rattle.std.proofs.lemmas.Nat.{mod_below}
use Rattle.std.specs.Int.{bit_at}
use Rattle.mrc_model.specs.declared.Entry.{Entry}
use Rattle.mrc_model.specs.Rising.{is_rising, find_key}
use Rattle.mrc_model.specs.Map.{empty, get, insert, remove, len, all_but}
use Rattle.mrc_model.specs.World.{Space}
use Rattle.mrc_model.specs.Space.{entry_of, first_entry, is_entry_of, unused, least_from}
use Rattle.mrc_model.proofs.Maps.{same_Some, not_None, get-insert_same, get-insert_other, get-empty}
use Rattle.mrc_model.proofs.Maps.{get-remove_same, get-remove_other, find_here, find_low}
use Rattle.mrc_model.proofs.Maps.{rest_rises, if_true, if_false, Each-insert, Each-alter_all}
use Rattle.mrc_model.proofs.Spaces.{get-unused, least_is_later}
use Rattle.mrc_map.proofs.EntryLaws.{remove-absent}
use Rattle.mrc_bits.proofs.Counts.{past as past_row}
use Rattle.std.proofs.lemmas.Bool.{cases_lt}
use Rattle.mrc_index.specs.Pairs.{has_pair, IsLeast}
use Rattle.mrc_index.specs.Names.{is_once_of, is_held_by, is_once_by, HoldsAlike, IsIndexed}

-- no test both holds and fails
pub true_false : {A : Type 0} (b : Bool) → b ≡ true → b ≡ false → A
true_false true t f = absurd (cc)
true_false false t f = absurd (cc)

-- past the first entry
past : {X : Type 0} (e : ℕ × X) (es : List (ℕ × X)) (q : ℕ)
    → (q ≡ e.0 → ⊥)
    → find_key q (e ∷ es) ≡ find_key q es
past e es q n = if_false (q == e.0) (Some e.1) (find_key q es) (ne_eqb q e.0 n)

-- what a rising list has is not below its first key
not_low : {X : Type 0} (low n : ℕ) (v : X) (es : List (ℕ × X))
    → T (is_rising low es)
    → find_key n es ≡ Some v
    → n < low
    → ⊥
not_low low n v es r h l = not_None v (sym h ∙ find_low low n es r l)

-- the first entry of a port in a rising list
first_at : (low p n : ℕ) (e : Entry) (es : List (ℕ × Entry))
    → T (is_rising low es)
    → find_key n es ≡ Some e
    → is_entry_of p e ≡ true
    → ((m : ℕ) → m < n → is_held_by p (find_key m es) ≡ false)
    → first_entry p es ≡ Some (n, e)
first_at low p n e [] r h is none = absurd (not_None e (sym h))
first_at low p n e (d ∷ es) r h is none = elim (cases_eq n d.0) [
  | inl same ↦
      let value : d.1 ≡ e = same_Some d.1 e (sym (find_here d es)
      ∙ ap (λ z. find_key z (d ∷ es)) (sym same) ∙ h) in
      if_true (is_entry_of p d.1) (Some d) (first_entry p es) (ap (is_entry_of p) value ∙ is)
      ∙ ap (λ z. Some (z, d.1)) (sym same) ∙ ap (λ z. Some (n, z)) value
  | inr apart ↦
      let later : find_key n es ≡ Some e = sym (past d es n apart) ∙ h in
      let above : n < d.0 + 1 → ⊥ = not_low (d.0 + 1) n e es (rest_rises low d es r) later in
      let below : d.0 < n = over n d.0 above in
      let other : is_entry_of p d.1 ≡ false =
      ap (is_held_by p) (sym (find_here d es)) ∙ none d.0 below in
      if_false (is_entry_of p d.1) (Some d) (first_entry p es) other
      ∙ first_at (d.0 + 1) p n e es (rest_rises low d es r) later is (λ m l.
      elim (cases_eq m d.0) [
        | inl at ↦
            ap (is_held_by p) (find_low (d.0 + 1) m es (rest_rises low d es r) (omega arith))
        | inr off ↦ ap (is_held_by p) (sym (past d es m off)) ∙ none m l
      ])
]
  where
    over : (a b : ℕ) → (a < b + 1 → ⊥) → b < a
    over a b h = grind (arith, nat_tests)

-- a port without an entry in a list
none_at : (low p : ℕ) (es : List (ℕ × Entry))
    → T (is_rising low es)
    → ((m : ℕ) → is_held_by p (find_key m es) ≡ false)
    → first_entry p es ≡ None
none_at low p [] r none = refl
none_at low p (d ∷ es) r none =
    if_false (is_entry_of p d.1) (Some d) (first_entry p es)
    (ap (is_held_by p) (sym (find_here d es)) ∙ none d.0)
    ∙ none_at (d.0 + 1) p es (rest_rises low d es r) (λ m.
    elim (cases_eq m d.0) [
      | inl at ↦
          ap (is_held_by p) (find_low (d.0 + 1) m es (rest_rises low d es r) (omega arith))
      | inr off ↦ ap (is_held_by p) (sym (past d es m off)) ∙ none m
    ])

-- the entry of a port whose name is the least
pub least_entry : (x : Space) (p n : ℕ) (e : Entry)
    → get x n ≡ Some e
    → is_entry_of p e ≡ true
    → ((m : ℕ) → m < n → is_held_by p (get x m) ≡ false)
    → entry_of x p ≡ Some (n, e)
unfolding entry_of get
least_entry x p n e at is none = first_at 0 p n e x.list x.rising at is none

-- or there is none
pub no_entry : (x : Space) (p : ℕ)
    → ((m : ℕ) → is_held_by p (get x m) ≡ false)
    → entry_of x p ≡ None
unfolding entry_of get
no_entry x p none = none_at 0 p x.list x.rising none

-- the least pair of a port tells its entry
pub found_entry : (x : Space) (ports onces : List (ℕ × ℕ)) (bits : List ℕ) (p n : ℕ) (e : Entry)
    → IsIndexed x ports onces bits
    → IsLeast ports p 0 n
    → get x n ≡ Some e
    → entry_of x p ≡ Some (n, e)
unfolding entry_of get
found_entry x ports onces bits p n e i f at =
    first_at 0 p n e x.list x.rising at
    (ap (is_held_by p) (sym at) ∙ sym (i.held p n) ∙ f.has)
    (λ m l. sym (i.held p m) ∙ f.least m (omega arith) l)

-- that name has an entry
pub found_there : (x : Space) (ports onces : List (ℕ × ℕ)) (bits : List ℕ) (p n : ℕ)
    → IsIndexed x ports onces bits
    → IsLeast ports p 0 n
    → get x n ≡ None
    → ⊥
found_there x ports onces bits p n i f at =
    true_false (has_pair ports p n) f.has (i.held p n ∙ ap (is_held_by p) at)

pub found_none : (x : Space) (ports onces : List (ℕ × ℕ)) (bits : List ℕ) (p : ℕ)
    → IsIndexed x ports onces bits
    → ((n : ℕ) → 0 ≤ n → has_pair ports p n ≡ false)
    → entry_of x p ≡ None
unfolding entry_of get
found_none x ports onces bits p i none =
    none_at 0 p x.list x.rising (λ m. sym (i.held p m) ∙ none m (omega arith))

-- a number that is another one is above it
pub next_above : (a b c : ℕ) → a ≤ b → c ≡ a → (b ≡ c → ⊥) → a + 1 ≤ b
next_above a b c h s d = grind (arith, nat_tests)

-- the least unused number from k on
pub least_at : {X : Type 0} (low k n : ℕ) (es : List (ℕ × X))
    → T (is_rising low es)
    → k ≤ n
    → find_key n es ≡ None
    → ((m : ℕ) → k ≤ m → m < n → is_some (find_key m es) ≡ true)
    → least_from k es ≡ n
least_at low k n [] r le none used = elim (cases_order k n) [
  | inl same ↦ same
  | inr (inl less) ↦ true_false false (used k (omega arith) less) refl
  | inr (inr more) ↦ absurd (omega arith)
]
least_at low k n (e ∷ es) r le none used =
    let off : (m : ℕ) → (m ≡ e.0 → ⊥) → find_key m (e ∷ es) ≡ find_key m es = past e es in
    let away : n ≡ e.0 → ⊥ =
    λ z. not_None e.1 (sym (find_here e es) ∙ ap (λ q. find_key q (e ∷ es)) (sym z) ∙ none) in
    elim (cases_order e.0 k) [
      | inl same ↦
          let more : k + 1 ≤ n = next_above k n e.0 le same away in
          if_true (e.0 == k) _ _ (eq-eqb e.0 k same)
          ∙ least_at (e.0 + 1) (k + 1) n es (rest_rises low e es r) more (sym (off n away) ∙ none)
          (λ m a b. ap is_some (sym (off m (λ z. absurd (omega arith)))) ∙ used m (omega arith) b)
      | inr (inl less) ↦
          if_false (e.0 == k) _ _ (ne_eqb e.0 k (λ z. absurd (omega arith)))
          ∙ if_true (nat_lt e.0 k) _ _ (lt-ltb e.0 k less)
          ∙ least_at (e.0 + 1) k n es (rest_rises low e es r) le (sym (off n away) ∙ none)
          (λ m a b. ap is_some (sym (off m (λ z. absurd (omega arith)))) ∙ used m a b)
      | inr (inr more) ↦
          if_false (e.0 == k) _ _ (ne_eqb e.0 k (λ z. absurd (omega arith)))
          ∙ if_false (nat_lt e.0 k) _ _ (le-ltb e.0 k (omega arith))
          ∙ elim (cases_order k n) [
            | inl same ↦ same
            | inr (inl less) ↦
                true_false (is_some (find_key k (e ∷ es))) (used k (omega arith) less)
                (ap is_some (off k (λ z. absurd (omega arith))
                ∙ find_low (e.0 + 1) k es (rest_rises low e es r) (omega arith)))
            | inr (inr past_it) ↦ absurd (omega arith)
          ]
    ]

-- it is not far
least_near : {X : Type 0} (k : ℕ) (es : List (ℕ × X)) → least_from k es ≤ k + length es
least_near k [] = omega arith
least_near {X} k (e ∷ es) =
    let one = least_near (k + 1) es in
    let two = least_near k es in
    elim (e.0 == k) as (λ b. (if b then least_from (k + 1) es
    else if nat_lt e.0 k then least_from k es else k) ≤ k + suc (length es)) [
      | true ↦ omega arith
      | false ↦ elim (nat_lt e.0 k) as (λ b. (if b then least_from k es else k)
          ≤ k + suc (length es)) [
            | true ↦ omega arith
            | false ↦ omega arith
          ]
    ]

used_is : (o : Option Entry) → not (is_some o) ≡ false → is_some o ≡ true
used_is None h = true_false true refl h
used_is (Some e) h = refl

unused_is : (o : Option Entry) → not (is_some o) ≡ true → o ≡ None
unused_is None h = refl
unused_is (Some e) h = true_false false h refl

pub near : (x : Space) → len x ≤ 4096 → unused x < 4160
unfolding len unused
near x few = let h = least_near 1 x.list in omega arith

-- the first free bit tells the least unused name
pub first_free : (x : Space) (ports onces : List (ℕ × ℕ)) (bits : List ℕ) (n : ℕ)
    → IsIndexed x ports onces bits
    → len x ≤ 4096
    → IsNextBit bits 1 n
    → n < 4160
    → n ≡ unused x
unfolding unused get
first_free x ports onces bits n i few f small =
    sym (least_at 0 1 n x.list x.rising f.from_there
    (unused_is (find_key n x.list) (sym (i.free n small) ∙ f.set))
    (λ m a b. used_is (find_key m x.list) (sym (i.free m (omega arith)) ∙ f.first m a b)))

pub from_one : (y : Space) → 1 ≤ unused y
unfolding unused
from_one y = least_is_later 1 y.list

-- there is one
pub some_free : (x : Space) (ports onces : List (ℕ × ℕ)) (bits : List ℕ)
    → IsIndexed x ports onces bits
    → len x ≤ 4096
    → ((m : ℕ) → 1 ≤ m → is_set bits m ≡ false)
    → ⊥
some_free x ports onces bits i few none =
    true_false (is_set bits (unused x))
    (i.free (unused x) (near x few) ∙ ap (λ o. not (is_some o)) (get-unused x))
    (none (unused x) (from_one x))

-- changes

and_true : (b : Bool) (c : Bool) → c ≡ false → ((b && true) || c) ≡ b
and_true true c h = refl
and_true false c h = h

and_false : (b : Bool) (c : Bool) → ((b && false) || c) ≡ c
and_false true c = refl
and_false false c = refl

pub gone_true : (b : Bool) (c : Bool) → c ≡ b → (not (b && true) && c) ≡ false
gone_true true c h = refl
gone_true false c h = h

pub gone_false : (b : Bool) (c : Bool) → (not (b && false) && c) ≡ c
gone_false true c = refl
gone_false false c = refl

-- a pair more, seen under each name
more_pairs : (by : ℕ → Option Entry → Bool) (of : ℕ → Entry → Bool) (x : Space)
    (ps qs : List (ℕ × ℕ)) (n : ℕ) (e : Entry)
    → ((p : ℕ) → by p None ≡ false)
    → ((p : ℕ) (f : Entry) → by p (Some f) ≡ of p f)
    → ((p m : ℕ) → has_pair ps p m ≡ by p (get x m))
    → get x n ≡ None
    → ((p m : ℕ) → has_pair qs p m ≡ ((of p e && n == m) || has_pair ps p m))
    → (p m : ℕ)
    → has_pair qs p m ≡ by p (get (insert x n e) m)
more_pairs by of x ps qs n e none some was vacant now p m = elim (cases_eq m n) [
  | inl same ↦
      now p m ∙ ap (λ b. (of p e && b) || has_pair ps p m) (eq-eqb n m (sym same))
      ∙ and_true (of p e) (has_pair ps p m)
      (was p m ∙ ap (λ z. by p (get x z)) same ∙ ap (by p) vacant ∙ none p)
      ∙ sym (some p e) ∙ ap (by p) (sym (get-insert_same x n e))
      ∙ ap (λ z. by p (get (insert x n e) z)) (sym same)
  | inr apart ↦
      now p m ∙ ap (λ b. (of p e && b) || has_pair ps p m) (ne_eqb n m (λ z. apart (sym z)))
      ∙ and_false (of p e) (has_pair ps p m) ∙ was p m
      ∙ ap (by p) (sym (get-insert_other x n e m apart))
]

-- one less
less_pairs : (by : ℕ → Option Entry → Bool) (of : ℕ → Entry → Bool) (x : Space)
    (ps qs : List (ℕ × ℕ)) (n : ℕ) (e : Entry)
    → ((p : ℕ) → by p None ≡ false)
    → ((p : ℕ) (f : Entry) → by p (Some f) ≡ of p f)
    → ((p m : ℕ) → has_pair ps p m ≡ by p (get x m))
    → get x n ≡ Some e
    → ((p m : ℕ) → has_pair qs p m ≡ (not (of p e && n == m) && has_pair ps p m))
    → (p m : ℕ)
    → has_pair qs p m ≡ by p (get (remove x n) m)
less_pairs by of x ps qs n e none some was there now p m = elim (cases_eq m n) [
  | inl same ↦
      now p m ∙ ap (λ b. not (of p e && b) && has_pair ps p m) (eq-eqb n m (sym same))
      ∙ gone_true (of p e) (has_pair ps p m)
      (was p m ∙ ap (λ z. by p (get x z)) same ∙ ap (by p) there ∙ some p e)
      ∙ sym (none p) ∙ ap (by p) (sym (get-remove_same x n))
      ∙ ap (λ z. by p (get (remove x n) z)) (sym same)
  | inr apart ↦
      now p m ∙ ap (λ b. not (of p e && b) && has_pair ps p m) (ne_eqb n m (λ z. apart (sym z)))
      ∙ gone_false (of p e) (has_pair ps p m) ∙ was p m
      ∙ ap (by p) (sym (get-remove_other x n m apart))
]

pub put_indexed : (x : Space) (ports onces ports' onces' : List (ℕ × ℕ)) (bits bits' : List ℕ)
    (n : ℕ) (e : Entry)
    → IsIndexed x ports onces bits
    → get x n ≡ None
    → n < 2 ^ 32
    → ((p m : ℕ) → has_pair ports' p m ≡ ((is_entry_of p e && n == m) || has_pair ports p m))
    → ((p m : ℕ) → has_pair onces' p m ≡ ((is_once_of p e && n == m) || has_pair onces p m))
    → ((m : ℕ) → m < 4160 → is_set bits' m ≡ (not (m == n) && is_set bits m))
    → length bits' ≡ 65
    → IsIndexed (insert x n e) ports' onces' bits'
put_indexed x ports onces ports' onces' bits bits' n e i vacant fits held once used len' = record {
  words = len';
  short = Each-insert (λ k v. k < 2 ^ 32) x n e i.short fits;
  held = more_pairs is_held_by is_entry_of x ports ports' n e (λ p. refl) (λ p f. refl) i.held
      vacant held;
  once = more_pairs is_once_by is_once_of x onces onces' n e (λ p. refl) (λ p f. refl) i.once
      vacant once;
  free = λ m small. elim (cases_eq m n) [
    | inl same ↦
        used m small ∙ ap (λ b. not b && is_set bits m) (eq-eqb m n same)
        ∙ sym (ap (λ o. not (is_some o)) (ap (get (insert x n e)) same ∙ get-insert_same x n e))
    | inr apart ↦
        used m small ∙ ap (λ b. not b && is_set bits m) (ne_eqb m n apart) ∙ i.free m small
        ∙ sym (ap (λ o. not (is_some o)) (get-insert_other x n e m apart))
  ];
}

pub removed_indexed : (x : Space) (ports onces ports' onces' : List (ℕ × ℕ)) (bits bits' : List ℕ)
    (n : ℕ) (e : Entry)
    → IsIndexed x ports onces bits
    → get x n ≡ Some e
    → ((p m : ℕ) → has_pair ports' p m ≡ (not (is_entry_of p e && n == m) && has_pair ports p m))
    → ((p m : ℕ) → has_pair onces' p m ≡ (not (is_once_of p e && n == m) && has_pair onces p m))
    → ((m : ℕ) → m < 4160 → is_set bits' m ≡ (m == n || is_set bits m))
    → length bits' ≡ 65
    → IsIndexed (remove x n) ports' onces' bits'
removed_indexed x ports onces ports' onces' bits bits' n e i there held once freed len' = record {
  words = len';
  short = Each-alter_all (λ k v. k < 2 ^ 32) (λ k v. k < 2 ^ 32) (all_but n) x
      (λ k v y at is h. h) i.short;
  held = less_pairs is_held_by is_entry_of x ports ports' n e (λ p. refl) (λ p f. refl) i.held
      there held;
  once = less_pairs is_once_by is_once_of x onces onces' n e (λ p. refl) (λ p f. refl) i.once
      there once;
  free = λ m small. elim (cases_eq m n) [
    | inl same ↦
        freed m small ∙ ap (λ b. b || is_set bits m) (eq-eqb m n same)
        ∙ sym (ap (λ o. not (is_some o)) (ap (get (remove x n)) same ∙ get-remove_same x n))
    | inr apart ↦
        freed m small ∙ ap (λ b. b || is_set bits m) (ne_eqb m n apart) ∙ i.free m small
        ∙ sym (ap (λ o. not (is_some o)) (get-remove_other x n m apart))
  ];
}

-- an entry in the place of another leaves the free names
pub free_kept : (x : Space) (bits : List ℕ) (n m : ℕ) (d e : Entry)
    → get x n ≡ Some d
    → is_set bits m ≡ not (is_some (get x m))
    → is_set bits m ≡ not (is_some (get (insert x n e) m))
free_kept x bits n m d e there was = elim (cases_eq m n) [
  | inl same ↦
      was ∙ ap (λ o. not (is_some o)) (ap (get x) same ∙ there)
      ∙ sym (ap (λ o. not (is_some o)) (ap (get (insert x n e)) same ∙ get-insert_same x n e))
  | inr apart ↦ was ∙ sym (ap (λ o. not (is_some o)) (get-insert_other x n e m apart))
]

pub set_indexed : (x : Space) (ports onces : List (ℕ × ℕ)) (bits : List ℕ) (n : ℕ) (d e : Entry)
    → IsIndexed x ports onces bits
    → get x n ≡ Some d
    → HoldsAlike d e
    → IsIndexed (insert x n e) ports onces bits
set_indexed x ports onces bits n d e i there alike = record {
  words = i.words;
  short = Each-insert (λ k v. k < 2 ^ 32) x n e i.short (i.short n d there);
  held = λ p m. elim (cases_eq m n) [
    | inl same ↦
        i.held p m ∙ ap (λ z. is_held_by p (get x z)) same ∙ ap (is_held_by p) there
        ∙ sym (alike.held p) ∙ ap (is_held_by p) (sym (get-insert_same x n e))
        ∙ ap (λ z. is_held_by p (get (insert x n e) z)) (sym same)
    | inr apart ↦ i.held p m ∙ ap (is_held_by p) (sym (get-insert_other x n e m apart))
  ];
  once = λ p m. elim (cases_eq m n) [
    | inl same ↦
        i.once p m ∙ ap (λ z. is_once_by p (get x z)) same ∙ ap (is_once_by p) there
        ∙ sym (alike.once p) ∙ ap (is_once_by p) (sym (get-insert_same x n e))
        ∙ ap (λ z. is_once_by p (get (insert x n e) z)) (sym same)
    | inr apart ↦ i.once p m ∙ ap (is_once_by p) (sym (get-insert_other x n e m apart))
  ];
  free = λ m small. free_kept x bits n m d e there (i.free m small);
}

pub new_indexed : (x : Space) (ports onces : List (ℕ × ℕ)) (bits : List ℕ)
    → x ≡ empty
    → ports ≡ []
    → onces ≡ []
    → ((m : ℕ) → m < 4160 → is_set bits m ≡ true)
    → length bits ≡ 65
    → IsIndexed x ports onces bits
new_indexed x ports onces bits a b c all len' = record {
  words = len';
  short = λ n v at. absurd (not_None v (sym at ∙ ap (λ y. get y n) a ∙ get-empty n));
  held = λ p n.
      ap (λ z. has_pair z p n) b ∙ sym (ap (is_held_by p) (ap (λ z. get z n) a ∙ get-empty n));
  once = λ p n.
      ap (λ z. has_pair z p n) c ∙ sym (ap (is_once_by p) (ap (λ z. get z n) a ∙ get-empty n));
  free = λ m small. all m small
      ∙ sym (ap (λ o. not (is_some o)) (ap (λ z. get z m) a ∙ get-empty m));
}

pub ones : (m : ℕ) → m < 4160 → is_set (replicate 65 18446744073709551615) m ≡ true
ones m small =
    ap (λ w. bit_at w (m % 64) == 1)
    (get_or-replicate 65 (m / 64) 18446744073709551615 0 (omega arith))
    ∙ ap (λ b. b == 1) (bit_at_ones 64 (m % 64) (mod_below m 64 (lit< tt)))

-- the same for the space that code has after the change

pub put_after : (x x' : Space) (ports onces ports' onces' : List (ℕ × ℕ)) (bits bits' : List ℕ)
    (k n : ℕ) (e : Entry)
    → IsIndexed x ports onces bits
    → k ≡ n
    → get x n ≡ None
    → n < 2 ^ 32
    → x' ≡ insert x k e
    → ((p m : ℕ) → has_pair ports' p m ≡ ((is_entry_of p e && n == m) || has_pair ports p m))
    → ((p m : ℕ) → has_pair onces' p m ≡ ((is_once_of p e && n == m) || has_pair onces p m))
    → ((m : ℕ) → m < 4160 → is_set bits' m ≡ (not (m == n) && is_set bits m))
    → length bits' ≡ 65
    → IsIndexed x' ports' onces' bits'
put_after x x' ports onces ports' onces' bits bits' k n e i key vacant fits is held once used len' =
    subst (λ z. IsIndexed z ports' onces' bits') (sym (is ∙ ap (λ j. insert x j e) key))
    (put_indexed x ports onces ports' onces' bits bits' n e i vacant fits held once used len')

pub removed_after : (x x' : Space) (ports onces ports' onces' : List (ℕ × ℕ)) (bits bits' : List ℕ)
    (k n : ℕ) (e : Entry)
    → IsIndexed x ports onces bits
    → k ≡ n
    → get x k ≡ Some e
    → x' ≡ remove x k
    → ((p m : ℕ) → has_pair ports' p m ≡ (not (is_entry_of p e && n == m) && has_pair ports p m))
    → ((p m : ℕ) → has_pair onces' p m ≡ (not (is_once_of p e && n == m) && has_pair onces p m))
    → ((m : ℕ) → m < 4160 → is_set bits' m ≡ (m == n || is_set bits m))
    → length bits' ≡ 65
    → IsIndexed x' ports' onces' bits'
removed_after x x' ports onces ports' onces' bits bits' k n e i key there is held once freed len' =
    subst (λ z. IsIndexed z ports' onces' bits') (sym (is ∙ ap (remove x) key))
    (removed_indexed x ports onces ports' onces' bits bits' n e i (ap (get x) (sym key) ∙ there)
    held once freed len')

pub absent_after : (x x' : Space) (ports onces : List (ℕ × ℕ)) (bits : List ℕ) (k : ℕ)
    → IsIndexed x ports onces bits
    → get x k ≡ None
    → x' ≡ remove x k
    → IsIndexed x' ports onces bits
absent_after x x' ports onces bits k i none is =
    subst (λ z. IsIndexed z ports onces bits) (sym (is ∙ remove-absent x k none)) i

pub set_after : (x x' : Space) (ports onces : List (ℕ × ℕ)) (bits : List ℕ) (k : ℕ) (d e : Entry)
    → IsIndexed x ports onces bits
    → get x k ≡ Some d
    → HoldsAlike d e
    → x' ≡ insert x k e
    → IsIndexed x' ports onces bits
set_after x x' ports onces bits k d e i there alike is =
    subst (λ z. IsIndexed z ports onces bits) (sym is)
    (set_indexed x ports onces bits k d e i there alike)

-- a set bit of the row is the bit of a name
pub within_row : (bits : List ℕ) (n : ℕ) → length bits ≡ 65 → is_set bits n ≡ true → n < 4160
within_row bits n len set = elim (cases_lt (n / 64) 65) [
  | inl low ↦ omega arith
  | inr high ↦ true_false (is_set bits n) set (past_row bits n (omega arith))
]
