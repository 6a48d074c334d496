-- The laws of maps.
use Rattle.std.proofs.Common.{◌≡◌, ℕ, suc, ◌+◌, ◌<◌, ◌≤◌, ◌⊎◌, inl, inr, Bool, true, false, T, List}
use Rattle.std.proofs.Common.{[], ◌∷◌, length, Option, Some, None, refl, sym, ◌∙◌, ap, subst, arith}
use Rattle.std.proofs.Common.{nat_lt, ◌==◌, if◌then◌else◌}
use Rattle.std.specs.Option.{option_and_then}
use Rattle.std.proofs.lemmas.Bool.{eqb-true, eqb-false, ltb-true, eq-eqb, ne_eqb, cases_eq}
use Rattle.std.proofs.lemmas.Bool.{cases_lt}
use Rattle.std.specs.Prelude.{IsSome}
use mathlib.Core.HLevel.{Σ_prop_path}
use lib.Dec.{T_prop}
use Rattle.mrc_model.specs.Rising.{is_rising, find_key, put_key, cons_some, alter_list, left_holds}
use Rattle.mrc_model.specs.Rising.{right_holds, at_least}
use Rattle.mrc_model.specs.Map.{Map, empty, get, insert, alter_all, all_but, remove, len, key_after}
use Rattle.mrc_model.specs.Map.{next_key, sum_list, total, Each}

-- f at the entry, or 0
abbrev pub at_or_0 : {X : Type 0} → (ℕ → X → ℕ) → ℕ → Option X → ℕ
at_or_0 f k None = 0
at_or_0 f k (Some v) = f k v

pub same_Some : {A : Type 0} (x y : A) → Some x ≡ Some y → x ≡ y
same_Some x y e = cc

pub not_None : {A : Type 0} (x : A) → Some x ≡ None → ⊥
not_None x e = cc

same_key : {A : Type 0} (q k : ℕ) (x y : A) → q ≡ k → (if q == k then x else y) ≡ x
same_key q k x y e = rw (eq-eqb q k e)

other_key : {A : Type 0} (q k : ℕ) (x y : A) → (q ≡ k → ⊥) → (if q == k then x else y) ≡ y
other_key q k x y e = rw (ne_eqb q k e)

-- the rest of a rising list rises
pub rest_rises : {X : Type 0} (low : ℕ) (e : ℕ × X) (es : List (ℕ × X)) → T (is_rising low (e ∷ es))
    → T (is_rising (e.0 + 1) es)
rest_rises low e es r = right_holds _ _ r

pub find_low : {X : Type 0} (low q : ℕ) (es : List (ℕ × X)) → T (is_rising low es) → q < low
    → find_key q es ≡ None
find_low low q [] r h = refl
find_low low q (e ∷ es) r h =
    let k : low ≤ e.0 = at_least low e.0 (left_holds _ _ r) in
    let below : q < e.0 + 1 = omega arith in
    let apart : (q ≡ e.0) → ⊥ = λ (z : q ≡ e.0). absurd (omega arith) in
    other_key q e.0 (Some e.1) (find_key q es) apart
    ∙ find_low (e.0 + 1) q es (rest_rises low e es r) below

find-put : {X : Type 0} (k q : ℕ) (v : X) (es : List (ℕ × X))
    → find_key q (put_key k v es) ≡ (if q == k then Some v else find_key q es)
find-put k q v [] = refl
find-put {X} k q v (e ∷ es) =
    elim (nat_lt k e.0) as (λ b. find_key q
    (if b then (k, v) ∷ e ∷ es else if k == e.0 then (k, v) ∷ es else e ∷ put_key k v es) ≡
    (if q == k then Some v else find_key q (e ∷ es))) [
      | true ↦ refl
      | false ↦ elim (k == e.0) as (λ b. (k == e.0) ≡ b → find_key q
          (if b then (k, v) ∷ es else e ∷ put_key k v es) ≡
          (if q == k then Some v else find_key q (e ∷ es))) [
            | true ↦ λ t. elim (cases_eq q k) [
              | inl same ↦ same_key q k (Some v) (find_key q es) same
                  ∙ sym (same_key q k (Some v) (find_key q (e ∷ es)) same)
              | inr apart ↦ other_key q k (Some v) (find_key q es) apart ∙ sym (other_key q e.0
                  (Some e.1) (find_key q es) (λ z. apart (z ∙ sym (eqb-true k e.0 t)))) ∙ sym
                  (other_key q k (Some v) (find_key q (e ∷ es)) apart)
            ]
            | false ↦ λ t. elim (cases_eq q e.0) [
              | inl same ↦ same_key q e.0 (Some e.1) (find_key q (put_key k v es)) same ∙ sym
                  (same_key q e.0 (Some e.1) (find_key q es) same) ∙ sym
                  (other_key q k (Some v) (find_key q (e ∷ es))
                  (λ z. eqb-false k e.0 t (sym z ∙ same)))
              | inr apart ↦ other_key q e.0 (Some e.1)
                  (find_key q (put_key k v es)) apart ∙ find-put k q v es ∙ ap
                  (λ r. if q == k then Some v else r)
                  (sym (other_key q e.0 (Some e.1) (find_key q es) apart))
            ]
          ] refl
    ]

-- what is above the last key is no key

key_after_is_later : {X : Type 0} (low : ℕ) (es : List (ℕ × X)) → T (is_rising low es)
    → low ≤ key_after low es
key_after_is_later low [] r = omega arith
key_after_is_later low (e ∷ es) r =
    let k : low ≤ e.0 = at_least low e.0 (left_holds _ _ r) in
    let later = key_after_is_later (e.0 + 1) es (rest_rises low e es r) in omega arith

key_after_is_free : {X : Type 0} (low q : ℕ) (es : List (ℕ × X)) → T (is_rising low es)
    → key_after low es ≤ q → find_key q es ≡ None
key_after_is_free low q [] r h = refl
key_after_is_free low q (e ∷ es) r h =
    let rest = rest_rises low e es r in
    let later = key_after_is_later (e.0 + 1) es rest in
    other_key q e.0 (Some e.1) (find_key q es) (λ (z : q ≡ e.0). absurd (omega arith))
    ∙ key_after_is_free (e.0 + 1) q es rest h

find-alter : {X Y : Type 0} (g : ℕ → X → Option Y) (low q : ℕ) (es : List (ℕ × X))
    → T (is_rising low es) → find_key q (alter_list g es) ≡ option_and_then (g q) (find_key q es)
find-alter g low q [] r = refl
find-alter {X} {Y} g low q (e ∷ es) r =
    let rest = find-alter g (e.0 + 1) q es (rest_rises low e es r) in
    elim (cases_eq q e.0) [
      | inl same ↦
          let none : find_key q es ≡ None = find_low (e.0 + 1) q es (rest_rises low e es r)
          (omega arith) in
          let none' : find_key q (alter_list g es) ≡ None = rest
          ∙ ap (option_and_then (g q)) none in
          let here : (o : Option Y) → find_key q (cons_some e.0 o (alter_list g es))
          ≡ o = elim [
            | None ↦ none'
            | Some y ↦ same_key q e.0 (Some y)
                (find_key q (alter_list g es)) same
          ] in
          here (g e.0 e.1) ∙ ap (λ i. g i e.1) (sym same)
          ∙ ap (option_and_then (g q)) (sym (same_key q e.0 (Some e.1) (find_key q es) same))
      | inr apart ↦
          let here : (o : Option Y) → find_key q (cons_some e.0 o (alter_list g es)) ≡ find_key q
          (alter_list g es) = elim [
            | None ↦ refl
            | Some y ↦ other_key q e.0 (Some y)
                (find_key q (alter_list g es)) apart
          ] in
          here (g e.0 e.1) ∙ rest
          ∙ ap (option_and_then (g q)) (sym (other_key q e.0 (Some e.1) (find_key q es) apart))
    ]

module _ {X : Type 0} where
  pub get-insert : (m : Map X) (k : ℕ) (v : X) (q : ℕ)
      → get (insert m k v) q ≡ (if q == k then Some v else get m q)
  unfolding get insert
  get-insert m k v q = find-put k q v m.list

  pub get-insert_same : (m : Map X) (k : ℕ) (v : X) → get (insert m k v) k ≡ Some v
  get-insert_same m k v = get-insert m k v k ∙ same_key k k (Some v) (get m k) refl

  pub get-insert_other : (m : Map X) (k : ℕ) (v : X) (q : ℕ) → (q ≡ k → ⊥)
      → get (insert m k v) q ≡ get m q
  get-insert_other m k v q apart = get-insert m k v q ∙ other_key q k (Some v) (get m q) apart

  pub get-empty : (q : ℕ) → get (empty {X = X}) q ≡ None
  unfolding get empty
  get-empty q = refl

  -- no key is the next one or above it
  pub get-above : (m : Map X) (q : ℕ) → next_key m ≤ q → get m q ≡ None
  unfolding get next_key
  get-above m q h = key_after_is_free 0 q m.list m.rising h

  -- the next key has no entry
  pub get-next_key : (m : Map X) → get m (next_key m) ≡ None
  get-next_key m = get-above m (next_key m) (omega arith)

  pub get-alter_all : {Y : Type 0} (g : ℕ → X → Option Y) (m : Map X) (q : ℕ)
      → get (alter_all g m) q ≡ option_and_then (g q) (get m q)
  unfolding get alter_all
  get-alter_all g m q = find-alter g 0 q m.list m.rising

  pub Each-insert : (P : ℕ → X → Type 0) (m : Map X) (k : ℕ) (v : X) → Each P m → P k v
      → Each P (insert m k v)
  Each-insert P m k v all here q x e = elim (cases_eq q k) [
    | inl same ↦ let is : v ≡ x = same_Some v x (sym (get-insert_same m k v)
        ∙ ap (get (insert m k v)) (sym same)
        ∙ e) in subst (λ y. P y x) (sym same) (subst (P k) is here)
    | inr apart ↦ all q x (sym (get-insert_other m k v q apart) ∙ e)
  ]

  pub Each-alter_all : {Y : Type 0} (P : ℕ → X → Type 0) (Q : ℕ → Y → Type 0) (g : ℕ → X
      → Option Y) (m : Map X) → ((k : ℕ) (v : X) (y : Y) → get m k ≡ Some v → g k v ≡ Some y → P k v
      → Q k y) → Each P m → Each Q (alter_all g m)
  Each-alter_all {Y} P Q g m step all k y e =
      let go : (o : Option X) → get m k ≡ o → option_and_then (g k) o ≡ Some y → Q k y = elim [
        | None ↦ λ a b. absurd (not_None y (sym b))
        | Some v ↦ λ a b. step k v y a b (all k v a)
      ] in
      go (get m k) refl (sym (get-alter_all g m k) ∙ e)

-- sums over the entries

total_low : {X : Type 0} (f : ℕ → X → ℕ) (low k : ℕ) (v : X) (es : List (ℕ × X))
    → T (is_rising low es)
    → sum_list f (put_key k v es) + at_or_0 f k (find_key k es) ≡ sum_list f es + f k v
total_low f low k v [] r = omega arith
total_low {X} f low k v (e ∷ es) r =
    elim (nat_lt k e.0) as (λ b. nat_lt k e.0 ≡ b → sum_list f (if b then (k, v) ∷ e ∷ es
    else if k == e.0 then (k, v) ∷ es else e ∷ put_key k v es) + at_or_0 f k (find_key k
    (e ∷ es)) ≡ sum_list f (e ∷ es) + f k v) [
      | true ↦ λ l.
          let lower : k < e.0 = ltb-true k e.0 l in
          let none : find_key k (e ∷ es) ≡ None = other_key k e.0 (Some e.1) (find_key k es)
          (λ (z : k ≡ e.0). absurd (omega arith)) ∙ find_low (e.0 + 1) k es
          (rest_rises low e es r) (omega arith) in
          rw none (omega arith)
      | false ↦ λ l. elim (k == e.0) as (λ b. (k == e.0) ≡ b → sum_list f
          (if b then (k, v) ∷ es else e ∷ put_key k v es) + at_or_0 f k
          (if b then Some e.1 else find_key k es) ≡ sum_list f (e ∷ es) + f k v) [
            | true ↦ λ t.
                let is : k ≡ e.0 = eqb-true k e.0 t in
                rw (ap (λ z. f z e.1) is) (omega arith)
            | false ↦ λ t. let rest : sum_list f (put_key k v es) + at_or_0 f k (find_key k es)
                ≡ sum_list f es + f k v = total_low f (e.0 + 1) k v es
                (rest_rises low e es r) in omega arith
          ] refl
    ] refl

sum_alter : {X Y : Type 0} (f : ℕ → Y → ℕ) (g : ℕ → X → Option Y) (es : List (ℕ × X))
    → sum_list f (alter_list g es) ≡ sum_list (λ k x. at_or_0 f k (g k x)) es
sum_alter f g [] = refl
sum_alter {X} {Y} f g (e ∷ es) =
    let rest : sum_list f (alter_list g es) ≡ sum_list
    (λ k x. at_or_0 f k (g k x)) es = sum_alter f g es in
    elim (g e.0 e.1) as (λ o. sum_list f (cons_some e.0 o (alter_list g es))
    ≡ at_or_0 f e.0 o + sum_list
    (λ k x. at_or_0 f k (g k x)) es) [ None ↦ omega arith | Some y ↦ omega arith ]

-- each entry of a rising list is found
Agrees : {X : Type 0} → (ℕ → X → Type 0) → List (ℕ × X) → Type 0
Agrees {X} P es = (k : ℕ) (v : X) → find_key k es ≡ Some v → P k v

Agrees_rest : {X : Type 0} (P : ℕ → X → Type 0) (low : ℕ) (e : ℕ × X) (es : List (ℕ × X))
    → T (is_rising low (e ∷ es)) → Agrees P (e ∷ es) → Agrees P es
unfolding Agrees
Agrees_rest P low e es r all k v is = elim (cases_eq k e.0) [
  | inl same ↦ absurd (not_None v (sym is
      ∙ find_low (e.0 + 1) k es (rest_rises low e es r) (omega arith)))
  | inr apart ↦ all k v (other_key k e.0 (Some e.1) (find_key k es) apart ∙ is)
]

Agrees_first : {X : Type 0} (P : ℕ → X → Type 0) (e : ℕ × X) (es : List (ℕ × X)) → Agrees P (e ∷ es)
    → P e.0 e.1
unfolding Agrees
Agrees_first P e es all = all e.0 e.1 (same_key e.0 e.0 (Some e.1) (find_key e.0 es) refl)

sum_same : {X : Type 0} (f g : ℕ → X → ℕ) (low : ℕ) (es : List (ℕ × X)) → T (is_rising low es)
    → Agrees (λ k v. f k v ≡ g k v) es → sum_list f es ≡ sum_list g es
sum_same f g low [] r all = refl
sum_same f g low (e ∷ es) r all =
    let rest : sum_list f es ≡ sum_list g es = sum_same f g (e.0 + 1) es (rest_rises low e es r)
    (Agrees_rest (λ k v. f k v ≡ g k v) low e es r all) in
    let here : f e.0 e.1 ≡ g e.0 e.1 = Agrees_first (λ k v. f k v ≡ g k v) e es all in
    omega arith

sum_plus : {X : Type 0} (f g : ℕ → X → ℕ) (es : List (ℕ × X))
    → sum_list (λ k x. f k x + g k x) es ≡ sum_list f es + sum_list g es
sum_plus f g [] = omega arith
sum_plus f g (e ∷ es) =
    let rest : sum_list (λ k x. f k x + g k x) es
    ≡ sum_list f es + sum_list g es = sum_plus f g es in omega arith

length_put : {X : Type 0} (low k : ℕ) (v : X) (es : List (ℕ × X)) → T (is_rising low es)
    → length (put_key k v es) + at_or_0 (λ q y. 1) k (find_key k es) ≡ length es + 1
length_put low k v [] r = omega arith
length_put {X} low k v (e ∷ es) r =
    elim (nat_lt k e.0) as (λ b. nat_lt k e.0 ≡ b → length (if b then (k, v) ∷ e ∷ es
    else if k == e.0 then (k, v) ∷ es else e ∷ put_key k v es) + at_or_0 (λ q y. 1) k
    (find_key k (e ∷ es)) ≡ suc (length es) + 1) [
      | true ↦ λ l.
          let lower : k < e.0 = ltb-true k e.0 l in
          let none : find_key k (e ∷ es) ≡ None = other_key k e.0 (Some e.1) (find_key k es)
          (λ (z : k ≡ e.0). absurd (omega arith)) ∙ find_low (e.0 + 1) k es
          (rest_rises low e es r) (omega arith) in
          rw none (omega arith)
      | false ↦ λ l. elim (k == e.0) as (λ b. length
          (if b then (k, v) ∷ es else e ∷ put_key k v es) + at_or_0 (λ q y. 1) k
          (if b then Some e.1 else find_key k es) ≡ suc (length es) + 1) [
            | true ↦ omega arith
            | false ↦ let rest : length (put_key k v es) + at_or_0 (λ q y. 1) k (find_key k es)
                ≡ length es + 1 = length_put (e.0 + 1) k v es (rest_rises low e es r) in omega arith
          ]
    ] refl

length_alter : {X Y : Type 0} (g : ℕ → X → Option Y) (es : List (ℕ × X))
    → length (alter_list g es) ≤ length es
length_alter g [] = omega arith
length_alter {X} {Y} g (e ∷ es) =
    let rest = length_alter g es in elim (g e.0 e.1) as (λ o. length
    (cons_some e.0 o (alter_list g es)) ≤ suc
    (length es)) [ None ↦ omega arith | Some y ↦ omega arith ]

module _ {X : Type 0} where
  pub total-insert : (f : ℕ → X → ℕ) (m : Map X) (k : ℕ) (v : X)
      → total f (insert m k v) + at_or_0 f k (get m k) ≡ total f m + f k v
  unfolding total insert get
  total-insert f m k v = total_low f 0 k v m.list m.rising

  pub total-alter_all : {Y : Type 0} (f : ℕ → Y → ℕ) (g : ℕ → X → Option Y) (m : Map X)
      → total f (alter_all g m) ≡ total (λ k x. at_or_0 f k (g k x)) m
  unfolding total alter_all
  total-alter_all f g m = sum_alter f g m.list

  pub total-same : (f g : ℕ → X → ℕ) (m : Map X) → Each (λ k v. f k v ≡ g k v) m
      → total f m ≡ total g m
  unfolding total get Agrees
  total-same f g m all = sum_same f g 0 m.list m.rising all

  pub total-plus : (f g : ℕ → X → ℕ) (m : Map X)
      → total (λ k x. f k x + g k x) m ≡ total f m + total g m
  unfolding total
  total-plus f g m = sum_plus f g m.list

  pub total-empty : (f : ℕ → X → ℕ) → total f empty ≡ 0
  unfolding total empty
  total-empty f = refl

  pub len-insert : (m : Map X) (k : ℕ) (v : X)
      → len (insert m k v) + at_or_0 (λ q y. 1) k (get m k) ≡ len m + 1
  unfolding len insert get
  len-insert m k v = length_put 0 k v m.list m.rising

  pub len-alter_all : {Y : Type 0} (g : ℕ → X → Option Y) (m : Map X) → len (alter_all g m) ≤ len m
  unfolding len alter_all
  len-alter_all g m = length_alter g m.list

  pub len-empty : (m : Map X) → m ≡ empty → len m ≡ 0
  unfolding len empty
  len-empty m e = rw e

  -- what holds of each entry holds along the list
  pub Each-rest : (P : ℕ → X → Type 0) (low : ℕ) (e : ℕ × X) (es : List (ℕ × X))
      → T (is_rising low (e ∷ es)) → ((k : ℕ) (v : X) → find_key k (e ∷ es) ≡ Some v → P k v)
      → (k : ℕ) (v : X) → find_key k es ≡ Some v → P k v
  unfolding Agrees
  Each-rest P low e es r all = Agrees_rest P low e es r all

sum_without : {X : Type 0} (f : ℕ → X → ℕ) (low k : ℕ) (es : List (ℕ × X)) → T (is_rising low es)
    → sum_list f (alter_list (all_but k) es) + at_or_0 f k (find_key k es) ≡ sum_list f es
sum_without f low k [] r = omega arith
sum_without {X} f low k (e ∷ es) r =
    let rest : sum_list f (alter_list (all_but k) es) + at_or_0 f k (find_key k es)
    ≡ sum_list f es = sum_without f (e.0 + 1) k es (rest_rises low e es r) in
    elim (cases_eq k e.0) [
      | inl same ↦
          let none : find_key k es ≡ None = find_low (e.0 + 1) k es (rest_rises low e es r)
          (omega arith) in
          let at : at_or_0 f k (find_key k es) ≡ 0 = ap (at_or_0 f k) none in
          let gone : all_but k e.0 e.1 ≡ None = same_key e.0 k None (Some e.1) (sym same) in
          let here : at_or_0 f k (find_key k (e ∷ es)) ≡ f k e.1 = ap (at_or_0 f k)
          (same_key k e.0 (Some e.1) (find_key k es) same) in
          let value : f k e.1 ≡ f e.0 e.1 = ap (λ z. f z e.1) same in
          rw gone (omega arith)
      | inr apart ↦
          let kept : all_but k e.0 e.1 ≡ Some e.1 = other_key e.0 k None (Some e.1)
          (λ z. apart (sym z)) in
          let here : at_or_0 f k (find_key k (e ∷ es)) ≡ at_or_0 f k (find_key k es) = ap
          (at_or_0 f k) (other_key k e.0 (Some e.1) (find_key k es) apart) in
          rw kept (omega arith)
    ]

module _ {X : Type 0} where
  pub total-remove : (f : ℕ → X → ℕ) (m : Map X) (k : ℕ)
      → total f (remove m k) + at_or_0 f k (get m k) ≡ total f m
  unfolding total alter_all get
  total-remove f m k = sum_without f 0 k m.list m.rising

  pub get-remove_same : (m : Map X) (k : ℕ) → get (remove m k) k ≡ None
  get-remove_same m k =
      let none : (o : Option X) → option_and_then (all_but k k) o
      ≡ None = elim [ None ↦ refl | Some v ↦ same_key k k None (Some v) refl ] in
      get-alter_all (all_but k) m k ∙ none (get m k)

  pub get-remove_other : (m : Map X) (k q : ℕ) → (q ≡ k → ⊥) → get (remove m k) q ≡ get m q
  get-remove_other m k q apart =
      let kept : (o : Option X) → option_and_then (all_but k q) o
      ≡ o = elim [ None ↦ refl | Some v ↦ other_key q k None (Some v) apart ] in
      get-alter_all (all_but k) m q ∙ kept (get m q)

  -- where an entry of a map with one key changed comes from
  pub origin-insert : (m : Map X) (k : ℕ) (v : X) (q : ℕ) (x : X) → get (insert m k v) q ≡ Some x
      → ((q ≡ k) × (v ≡ x)) ⊎ ((q ≡ k → ⊥) × (get m q ≡ Some x))
  origin-insert m k v q x is = elim (cases_eq q k) [
    | inl e ↦ inl (
      e,
      same_Some v x (sym (get-insert_same m k v) ∙ ap (get (insert m k v)) (sym e)
          ∙ is),
    )
    | inr n ↦ inr (n, sym (get-insert_other m k v q n) ∙ is)
  ]

  pub origin-remove : (m : Map X) (k q : ℕ) (x : X) → get (remove m k) q ≡ Some x
      → (q ≡ k → ⊥) × (get m q ≡ Some x)
  origin-remove m k q x is = elim (cases_eq q k) [
    | inl e ↦ absurd (not_None x (sym is ∙ ap (get (remove m k)) e ∙ get-remove_same m k))
    | inr n ↦ (n, sym (get-remove_other m k q n) ∙ is)
  ]

  pub origin-alter_all : {Y : Type 0} (g : ℕ → X → Option Y) (m : Map X) (q : ℕ) (y : Y)
      → get (alter_all g m) q ≡ Some y → (x : X) × (get m q ≡ Some x) × (g q x ≡ Some y)
  origin-alter_all {Y} g m q y is =
      let go : (o : Option X) → get m q ≡ o → option_and_then (g q) o ≡ Some y
      → (x : X) × (get m q ≡ Some x) × (g q x ≡ Some y) = elim [
        | None ↦ λ a b. absurd (not_None y (sym b))
        | Some x ↦ λ a b. (x, a, b)
      ] in
      go (get m q) refl (sym (get-alter_all g m q) ∙ is)

  -- no entry counts for more than the whole
  pub at_most-total : (f : ℕ → X → ℕ) (m : Map X) (k : ℕ) (v : X) → get m k ≡ Some v
      → f k v ≤ total f m
  at_most-total f m k v is =
      let a = total-remove f m k in let b = ap (at_or_0 f k) is in omega arith

-- what is found in the rest of a list is found in it
pub find_later : {X : Type 0} (low : ℕ) (e : ℕ × X) (es : List (ℕ × X)) (k : ℕ) (v : X)
    → T (is_rising low (e ∷ es)) → find_key k es ≡ Some v → find_key k (e ∷ es) ≡ Some v
find_later low e es k v r is = elim (cases_eq k e.0) [
  | inl same ↦ absurd (not_None v (sym is
      ∙ find_low (e.0 + 1) k es (rest_rises low e es r) (omega arith)))
  | inr apart ↦ other_key k e.0 (Some e.1) (find_key k es) apart ∙ is
]

pub find_here : {X : Type 0} (e : ℕ × X) (es : List (ℕ × X)) → find_key e.0 (e ∷ es) ≡ Some e.1
find_here e es = same_key e.0 e.0 (Some e.1) (find_key e.0 es) refl

-- what is found is the first entry or in the rest
pub find_cases : {X : Type 0} (e : ℕ × X) (es : List (ℕ × X)) (k : ℕ) (v : X)
    → find_key k (e ∷ es) ≡ Some v → ((k ≡ e.0) × (e.1 ≡ v)) ⊎ (find_key k es ≡ Some v)
find_cases e es k v is = elim (cases_eq k e.0) [
  | inl same ↦ inl (
    same,
    same_Some e.1 v (sym (same_key k e.0 (Some e.1) (find_key k es) same)
        ∙ is),
  )
  | inr apart ↦ inr (sym (other_key k e.0 (Some e.1) (find_key k es) apart) ∙ is)
]

pub if_true : {A : Type 0} (b : Bool) (x y : A) → b ≡ true → (if b then x else y) ≡ x
if_true b x y e = rw e

pub if_false : {A : Type 0} (b : Bool) (x y : A) → b ≡ false → (if b then x else y) ≡ y
if_false b x y e = rw e

length_sum : {X : Type 0} (es : List (ℕ × X)) → length es ≡ sum_list (λ k v. 1) es
length_sum [] = refl
length_sum (e ∷ es) = let rest = length_sum es in omega arith

sum_zero : {X : Type 0} (es : List (ℕ × X)) → sum_list (λ k v. 0) es ≡ 0
sum_zero [] = refl
sum_zero (e ∷ es) = let rest = sum_zero es in omega arith

module _ {X : Type 0} where
  len-total : (m : Map X) → len m ≡ total (λ k v. 1) m
  unfolding len total
  len-total m = length_sum m.list

  pub total-zero : (m : Map X) → total (λ k v. 0) m ≡ 0
  unfolding total
  total-zero m = sum_zero m.list

  pub len-remove : (m : Map X) (k : ℕ) → len (remove m k) + at_or_0 (λ q y. 1) k (get m k) ≡ len m
  len-remove m k =
      let a = total-remove (λ k v. 1) m k in let b = len-total m in let c = len-total
      (remove m k) in omega arith

-- the key below the next one is the last, if there is one
key_after_last : {X : Type 0} (low : ℕ) (es : List (ℕ × X)) → T (is_rising low es)
    → (key_after low es ≡ low) ⊎ ((k : ℕ) × (v : X) × (key_after low es ≡ k + 1)
    × (find_key k es ≡ Some v))
key_after_last low [] r = inl refl
key_after_last low (e ∷ es) r = elim (key_after_last (e.0 + 1) es (rest_rises low e es r)) [
  | inl same ↦ inr (e.0, e.1, same, find_here e es)
  | inr (k, v, is, at) ↦ inr (k, v, is, find_later low e es k v r at)
]

last_key : {X : Type 0} (m : Map X)
    → (next_key m ≡ 0) ⊎ ((k : ℕ) × (v : X) × (next_key m ≡ k + 1) × (get m k ≡ Some v))
unfolding next_key get
last_key m = key_after_last 0 m.list m.rising

-- where one map has the keys of another, its next key is not below
next_key-within : {X Y : Type 0} (m : Map X) (n : Map Y)
    → ((q : ℕ) → IsSome (get m q) → IsSome (get n q)) → next_key m ≤ next_key n
next_key-within m n within = elim (last_key m) [
  | inl none ↦ omega arith
  | inr (k, v, is, at) ↦ elim (cases_lt k (next_key n)) [
    | inl below ↦ omega arith
    | inr above ↦
        let has = within k (subst IsSome (sym at) refl) in
        let none : false ≡ true = subst IsSome (get-above n k above) has in cc
  ]
]

-- maps with the same keys have one next key
pub next_key-same : {X Y : Type 0} (m : Map X) (n : Map Y)
    → ((q : ℕ) → IsSome (get m q) → IsSome (get n q))
    → ((q : ℕ) → IsSome (get n q) → IsSome (get m q)) → next_key m ≡ next_key n
next_key-same m n there back =
    let a = next_key-within m n there in let b = next_key-within n m back in omega arith

-- what is there is below the next key
pub below-next_key : {X : Type 0} (m : Map X) (k : ℕ) → IsSome (get m k) → k < next_key m
below-next_key m k has = elim (cases_lt k (next_key m)) [
  | inl below ↦ below
  | inr above ↦
      let none : false ≡ true = subst (λ o. IsSome o) (get-above m k above) has in cc
]

pub next_key-empty : {X : Type 0} (m : Map X) → m ≡ empty → next_key m ≡ 0
unfolding next_key empty
next_key-empty m is = ap next_key is

-- where one more key is there, and none above it
next_key-above : {X : Type 0} (m n : Map X) → next_key m < next_key n
    → ((k : ℕ) (u : X) → get n k ≡ Some u → k ≤ next_key m) → next_key n ≡ next_key m + 1
next_key-above m n here most = elim (last_key n) [
  | inl none ↦ absurd (omega arith)
  | inr (k, u, is, at) ↦ let low = most k u at in omega arith
]

-- with a value at the next key, the one above it is next
pub next_key-insert : {X : Type 0} (m : Map X) (v : X)
    → next_key (insert m (next_key m) v) ≡ next_key m + 1
next_key-insert m v =
    next_key-above m (insert m (next_key m) v)
    (below-next_key (insert m (next_key m) v) (next_key m)
    (subst (λ o. IsSome o) (sym (get-insert_same m (next_key m) v)) refl))
    (λ k u at. elim (origin-insert m (next_key m) v k u at) [
      | inl same ↦ let e = same.0 in omega arith
      | inr old ↦
          let low = below-next_key m k (subst (λ o. IsSome o) (sym old.1) refl) in omega arith
    ])

-- a map is the list of its entries
pub same_list : {X : Type 0} (m n : Map X) → m.list ≡ n.list → m ≡ n
same_list {X} m n e =
    let pairs : ◌≡◌ {A = (es : List (ℕ × X)) × T (is_rising 0 es)} (m.list, m.rising)
    (n.list, n.rising) = Σ_prop_path (λ es. T_prop _) e in
    λ i. record { list = (pairs i).0; rising = (pairs i).1 }
