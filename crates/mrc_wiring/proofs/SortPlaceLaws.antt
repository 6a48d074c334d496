-- The first places of types, as types are added.
use Rattle.std.proofs.Common.{◌≡◌, ℕ, suc, ◌+◌, ◌<◌, ◌&&◌, Bool, true, false, not, cond}
use Rattle.std.proofs.Common.{List, [], ◌∷◌, ◌++◌, length, position, Option, Some, None}
use Rattle.std.proofs.Common.{Bor, zero, length-append, subst, inl, inr, option_map, refl, sym, ap}
use Rattle.std.proofs.Common.{◌∙◌, arith, nat_lt}
use Rattle.std.specs.Option.{is_some, option_copied, option_or}
use Rattle.std.specs.List.{position_or_len}
use Rattle.std.specs.Prelude.{String, bytes_eq, map, slice_get}
use Rattle.std.specs.BTreeMap.{BTreeMap}
use Rattle.std.specs.List.{AllByRecursion}
use Rattle.std.proofs.lemmas.Option.{slice_get_past}
use Rattle.mrc_forms.specs.Forms.{Slot}
use Rattle.mrc_wiring.specs.SortPlaces.{AreBelow, HasFirsts, IsFirsts, place_in}
use Rattle.std.proofs.lemmas.Slice.Eq.{bytes_eq-Decides}
use Rattle.mrc_wiring.specs.Sorts.{Sort, is_sort, slot_sort}
use Rattle.std.proofs.lemmas.Bool.{cases_lt, eq-eqb, ne_eqb, ltb-true, ltb-false, lt-ltb, le-ltb}

-- the first place, by the first element
by_first : {X : Type 0} (p : X → Bool) (x : X) (xs : List X) (b c : Bool)
    → p x ≡ b
    → nat_lt (position_or_len p xs) (length xs) ≡ c
    → cond (nat_lt (cond (not b) (1 + position_or_len p xs) 0) (suc (length xs)))
    (Some (cond (not b) (1 + position_or_len p xs) 0)) None
    ≡ cond b (Some 0) (option_map suc (cond c (Some (position_or_len p xs)) None))
by_first p x xs true c e f =
    ap (λ b. cond b (Some 0) None) (lt-ltb 0 (suc (length xs)) (omega arith))
by_first p x xs false true e f =
    let n = position_or_len p xs in
    let less = ltb-true n (length xs) f in
    ap (λ b. cond b (Some (1 + n)) None) (lt-ltb (1 + n) (suc (length xs)) (omega arith))
    ∙ ap (λ m. Some m) (omega arith)
by_first p x xs false false e f =
    let n = position_or_len p xs in
    let more = ltb-false n (length xs) f in
    ap (λ b. cond b (Some (1 + n)) None) (le-ltb (1 + n) (suc (length xs)) (omega arith))

step : {X : Type 0} (p : X → Bool) (x : X) (xs : List X)
    → position p (x ∷ xs) ≡ cond (p x) (Some 0) (option_map suc (position p xs))
step p x xs =
    by_first p x xs (p x) (nat_lt (position_or_len p xs) (length xs)) refl refl

-- of one element behind others, the place of these is told first
shifted : (b : Bool) (o : Option ℕ) (c : Bool) (n : ℕ)
    → cond b (Some 0) (option_map suc (option_or o (cond c (Some n) None)))
    ≡ option_or (cond b (Some 0) (option_map suc o)) (cond c (Some (suc n)) None)
shifted true o c n = refl
shifted false None true n = refl
shifted false None false n = refl
shifted false (Some i) c n = refl

pub place_with : {X : Type 0} (p : X → Bool) (xs : List X) (x : X)
    → position p (xs ++ x ∷ []) ≡ option_or (position p xs) (cond (p x) (Some (length xs)) None)
place_with p [] x = step p x []
    ∙ only (p x)
  where
    only : (b : Bool)
        → cond {A = Option ℕ} b (Some 0) None ≡ option_or None (cond b (Some 0) None)
    only true = refl
    only false = refl
place_with p (y ∷ ys) x =
    step p y (ys ++ x ∷ [])
    ∙ ap (λ o. cond (p y) (Some 0) (option_map suc o)) (place_with p ys x)
    ∙ shifted (p y) (position p ys) (p x) (length ys)
    ∙ ap (λ o. option_or o (cond (p x) (Some (suc (length ys))) None)) (sym (step p y ys))

or_none : {X : Type 0} (o : Option X) → option_or o None ≡ o
or_none None = refl
or_none (Some x) = refl

or_some : {X : Type 0} (o other : Option X) (x : X) → o ≡ Some x → option_or o other ≡ o
or_some o other x e = ap (λ o. option_or o other) e ∙ sym e

-- what a map shows of a place, and whether it has one
pub shown_none : (r : Option (Bor ℕ)) (o : Option ℕ) → is_some r ≡ false → option_copied r ≡ o
    → o ≡ None
shown_none None o e f = sym f
shown_none (Some x) o e f = cc

pub shown_some : (r : Option (Bor ℕ)) (o : Option ℕ) → is_some r ≡ true → option_copied r ≡ o
    → (i : ℕ) × (o ≡ Some i)
shown_some None o e f = cc
shown_some (Some x) o e f = (x.now, sym f)

turned : (one other : List ℕ) → bytes_eq one other ≡ bytes_eq other one
turned one other = by (bytes_eq one other) (bytes_eq other one) refl refl
  where
    by : (a b : Bool) → bytes_eq one other ≡ a → bytes_eq other one ≡ b → a ≡ b
    by true true e f = refl
    by false false e f = refl
    by true false e f =
        let same = (bytes_eq-Decides one other).0 e in
        let back = (bytes_eq-Decides other one).1 (sym same) in cc
    by false true e f =
        let same = (bytes_eq-Decides other one).0 f in
        let back = (bytes_eq-Decides one other).1 (sym same) in cc

module _ (s : ℕ) (sorts : List Sort) (text : List ℕ) where
  -- with a type of this interface and name behind the others
  abbrev more : List Sort
  more = sorts ++ record { interface = s; type_name = text } ∷ []

  place_more : (name : List ℕ)
      → position (is_sort s name) more
      ≡ option_or (position (is_sort s name) sorts)
      (cond (bytes_eq name text) (Some (length sorts)) None)
  place_more name =
      place_with (is_sort s name) sorts (record { interface = s; type_name = text })
      ∙ ap (λ b. option_or (position (is_sort s name) sorts)
      (cond (b && bytes_eq name text) (Some (length sorts)) None)) (eq-eqb s s refl)

  other_name : (name : List ℕ) → bytes_eq name text ≡ false
      → position (is_sort s name) more ≡ position (is_sort s name) sorts
  other_name name e =
      place_more name
      ∙ ap (λ b. option_or (position (is_sort s name) sorts) (cond b (Some (length sorts)) None)) e
      ∙ or_none (position (is_sort s name) sorts)

  -- one that stands there already changes no first place
  pub known : (i : ℕ) → position (is_sort s text) sorts ≡ Some i → (name : List ℕ)
      → position (is_sort s name) more ≡ position (is_sort s name) sorts
  known i there name = by (bytes_eq name text) refl
    where
      by : (b : Bool) → bytes_eq name text ≡ b
          → position (is_sort s name) more ≡ position (is_sort s name) sorts
      by true e =
          place_more name
          ∙ or_some (position (is_sort s name) sorts) _ i
          (ap (λ n. position (is_sort s n) sorts) ((bytes_eq-Decides name text).0 e) ∙ there)
      by false e = other_name name e

  -- and a new one has the last
  pub first : position (is_sort s text) sorts ≡ None → (name : List ℕ)
      → cond (bytes_eq text name) (Some (length sorts)) (position (is_sort s name) sorts)
      ≡ position (is_sort s name) more
  first none name = by (bytes_eq name text) refl
    where
      by : (b : Bool) → bytes_eq name text ≡ b
          → cond (bytes_eq text name) (Some (length sorts)) (position (is_sort s name) sorts)
          ≡ position (is_sort s name) more
      by true e =
          ap (λ b. cond b (Some (length sorts)) (position (is_sort s name) sorts))
          (turned text name ∙ e)
          ∙ sym (place_more name
          ∙ ap (λ o. option_or o (cond (bytes_eq name text) (Some (length sorts)) None))
          (ap (λ n. position (is_sort s n) sorts) ((bytes_eq-Decides name text).0 e) ∙ none)
          ∙ ap (λ b. cond b (Some (length sorts)) None) e)
      by false e =
          ap (λ b. cond b (Some (length sorts)) (position (is_sort s name) sorts))
          (turned text name ∙ e)
          ∙ sym (other_name name e)

  -- the same where the parts are known by other names
  pub first_at : (name key : List ℕ) (place : ℕ) (old : Option ℕ)
      → position (is_sort s text) sorts ≡ None
      → key ≡ text → place ≡ length sorts → old ≡ position (is_sort s name) sorts
      → cond (bytes_eq key name) (Some place) old ≡ position (is_sort s name) more
  first_at name key place old none e f g = rw (e, f, g) (first none name)

-- ---- of several interfaces

all_as : {X : Type 0} (P Q : X → Type 0) (f : (x : X) → P x → Q x) (xs : List X)
    → AllByRecursion P xs → AllByRecursion Q xs
all_as P Q f [] all = tt
all_as P Q f (x ∷ xs) all = (f x all.0, all_as P Q f xs all.1)

all_with : {X : Type 0} (P : X → Type 0) (xs ys : List X)
    → AllByRecursion P xs → AllByRecursion P ys → AllByRecursion P (xs ++ ys)
all_with P [] ys all more = more
all_with P (x ∷ xs) ys all more = (all.0, all_with P xs ys all.1 more)

none_where : {X : Type 0} (p : X → Bool) (xs : List X) → AllByRecursion (λ x. p x ≡ false) xs
    → position p xs ≡ None
none_where p [] all = refl
none_where p (x ∷ xs) all =
    step p x xs
    ∙ ap (λ b. cond b (Some 0) (option_map suc (position p xs))) all.0
    ∙ ap (option_map suc) (none_where p xs all.1)

place_before : {X : Type 0} (p : X → Bool) (xs ys : List X) → position p ys ≡ None
    → position p (xs ++ ys) ≡ position p xs
place_before p [] ys none = none
place_before p (x ∷ xs) ys none =
    step p x (xs ++ ys)
    ∙ ap (λ o. cond (p x) (Some 0) (option_map suc o)) (place_before p xs ys none)
    ∙ sym (step p x xs)

-- a type of another interface is none
apart : (s : ℕ) (name : List ℕ) (sort : Sort) → (sort.interface ≡ s → ⊥)
    → is_sort s name sort ≡ false
apart s name sort other =
    ap (λ b. b && bytes_eq name sort.type_name) (ne_eqb sort.interface s other)

-- no type is of an interface behind all
pub none_of_next : (s : ℕ) (sorts : List Sort) (name : List ℕ) → AreBelow s sorts
    → position (is_sort s name) sorts ≡ None
none_of_next s sorts name below =
    none_where (is_sort s name) sorts
    (all_as _ _ (λ (sort : Sort) less. apart s name sort (λ e. omega arith)) sorts below)

of_number : (n : ℕ) (slots : List Slot)
    → AllByRecursion (λ (sort : Sort). sort.interface ≡ n) (map (slot_sort n) slots)
of_number n [] = tt
of_number n (slot ∷ slots) = (refl, of_number n slots)

get_left : {X : Type 0} (xs ys : List X) (i : ℕ) → i < length xs
    → slice_get (xs ++ ys) i ≡ slice_get xs i
get_left [] ys i less = absurd (omega arith)
get_left (x ∷ xs) ys zero less = refl
get_left (x ∷ xs) ys (suc i) less = get_left xs ys i (omega arith)

get_last : {X : Type 0} (xs : List X) (y : X) (i : ℕ) → i ≡ length xs
    → slice_get (xs ++ y ∷ []) i ≡ Some y
get_last [] y zero e = refl
get_last [] y (suc i) e = absurd (omega arith)
get_last (x ∷ xs) y zero e = absurd (omega arith)
get_last (x ∷ xs) y (suc i) e = get_last xs y i (omega arith)

module _ {Y : Type 0} (n : ℕ) (sorts new : List Sort) (slots : List Slot)
    (firsts more : List (BTreeMap (String Y) ℕ)) (map_of : BTreeMap (String Y) ℕ)
    (below : AreBelow n sorts) (added : new ≡ sorts ++ map (slot_sort n) slots)
    (count : length firsts ≡ n) (kept : more ≡ firsts ++ map_of ∷ []) where
  pub below_next : AreBelow (n + 1) new
  below_next =
      subst (AreBelow (n + 1)) (sym added)
      (all_with (λ (sort : Sort). sort.interface < n + 1) sorts (map (slot_sort n) slots)
      (all_as _ _ (λ (sort : Sort) less. omega arith) sorts below)
      (all_as _ _ (λ (sort : Sort) e. omega arith) (map (slot_sort n) slots) (of_number n slots)))

  -- an interface before, this one, and one behind
  pub firsts_next : HasFirsts sorts firsts → IsFirsts n new map_of → HasFirsts new more
  firsts_next has own s name = elim (cases_lt s n) [
    | inl less ↦
        ap (λ ms. place_in (slice_get ms s) name) kept
        ∙ ap (λ o. place_in o name) (get_left firsts (map_of ∷ []) s (omega arith))
        ∙ has s name
        ∙ sym (ap (position (is_sort s name)) added
        ∙ place_before (is_sort s name) sorts (map (slot_sort n) slots)
        (none_where (is_sort s name) (map (slot_sort n) slots)
        (all_as _ _ (λ (sort : Sort) e. apart s name sort (λ f. omega arith))
        (map (slot_sort n) slots) (of_number n slots))))
    | inr most ↦ elim (cases_lt n s) [
      | inl above ↦
          ap (λ ms. place_in (slice_get ms s) name) kept
          ∙ ap (λ o. place_in o name) (slice_get_past (firsts ++ map_of ∷ []) s
          (omega (arith, length-append firsts (map_of ∷ []))))
          ∙ sym (none_of_next s new name
          (all_as _ _ (λ (sort : Sort) less. omega arith) new below_next))
      | inr least ↦
          let same : s ≡ n = omega arith in
          ap (λ ms. place_in (slice_get ms s) name) kept
          ∙ ap (λ o. place_in o name) (get_last firsts map_of s (omega arith))
          ∙ own name
          ∙ ap (λ k. position (is_sort k name) new) (sym same)
    ]
  ]
