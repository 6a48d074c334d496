-- The names of a table are the texts of its keys.
use Rattle.std.proofs.Common.{◌≡◌, ℕ, zero, suc, ◌+◌, Bool, true, false, List, [], ◌∷◌, ◌++◌, length}
use Rattle.std.proofs.Common.{map, take, slice_get, arith}
use Rattle.std.specs.Prelude.{unwrap_or, is_some}
use Rattle.std.proofs.Common.{position, Some, None, bytes_eq, string_bytes, String, cond}
use Rattle.std.proofs.Common.{refl, ap, sym, subst, ◌∙◌, inl, inr, nat_lt, not, if◌then◌else◌, ◌||◌}
use Rattle.std.specs.Bool.{Decides}
use Rattle.std.specs.Cmp.Lexicographic.{pointwise}
use Rattle.std.specs.Cmp.Derive.Mapped.{pointwise-map}
use Rattle.std.specs.List.{list_any, position_or_len, prefix_len, IsDistinct, AllByRecursion}
use Rattle.std.specs.String.{string_eq, string_eq_equiv}
use Rattle.std.specs.declared.alloc.Global.{Global}
use Rattle.std.proofs.lemmas.Bool.{cases_lt, lt-ltb, le-ltb}
use Rattle.std.proofs.lemmas.Map.Keys.{IsDistinct-head, IsDistinct-tail}
use Rattle.std.proofs.lemmas.Slice.Eq.{bytes_eq-Decides, slice_eq-Decides}
use Rattle.std.proofs.Math.Seq.{take-suc}
use Rattle.std.proofs.lemmas.Option.{get_or_from_slice_get, slice_get_within}
use Rattle.std.proofs.lemmas.List.{length-map, map-append}
use Rattle.mrc_base.proofs.Lists.{any_map}
use Rattle.indexmap.specs.IndexSet.{insert_key}
use Rattle.mrc_name_table.specs.Names.{with_name}

abbrev Key : Type 0
Key = String Global

abbrev pub text : Key → List ℕ
text key = string_bytes key

-- a number is a place among the keys

prefix_mapped : {X Y : Type 0} (test : Y → Bool) (v : X → Y) (xs : List X)
    → prefix_len test (map v xs) ≡ prefix_len (λ x. test (v x)) xs
prefix_mapped test v [] = refl
prefix_mapped test v (x ∷ xs) = ap (λ n. cond (test (v x)) (1 + n) 0) (prefix_mapped test v xs)

pub position_mapped : {X Y : Type 0} (test : Y → Bool) (v : X → Y) (xs : List X)
    → position test (map v xs) ≡ position (λ x. test (v x)) xs
position_mapped test v xs =
    ap (λ n. cond (nat_lt n (length (map v xs))) (Some n) None)
    (prefix_mapped (λ y. not (test y)) v xs)
    ∙ ap (λ m. cond (nat_lt (prefix_len (λ x. not (test (v x))) xs) m)
    (Some (prefix_len (λ x. not (test (v x))) xs)) None) (length-map xs v)

-- a test finds a place if and only if some element passes it

next_lt : (a b : ℕ) → nat_lt (1 + a) (suc b) ≡ nat_lt a b
next_lt a b = elim (cases_lt a b) [
  | inl below ↦ lt-ltb (1 + a) (suc b) (omega arith) ∙ sym (lt-ltb a b below)
  | inr past ↦ le-ltb (1 + a) (suc b) (omega arith) ∙ sym (le-ltb a b past)
]

any_place : {X : Type 0} (test : X → Bool) (xs : List X)
    → list_any test xs ≡ nat_lt (position_or_len test xs) (length xs)
any_place test [] = refl
any_place test (x ∷ xs) = by_test (test x) (any_place test xs)
  where
    by_test : (b : Bool) → list_any test xs ≡ nat_lt (position_or_len test xs) (length xs)
        → (b || list_any test xs)
        ≡ nat_lt (cond (not b) (1 + position_or_len test xs) 0) (suc (length xs))
    by_test true rest = sym (lt-ltb 0 (suc (length xs)) (omega arith))
    by_test false rest = rest ∙ sym (next_lt (position_or_len test xs) (length xs))

pub is_placed : {X : Type 0} (test : X → Bool) (xs : List X)
    → is_some (position test xs) ≡ list_any test xs
is_placed test xs =
    by_test (nat_lt (position_or_len test xs) (length xs)) ∙ sym (any_place test xs)
  where
    by_test : (b : Bool) → is_some (cond b (Some (position_or_len test xs)) None) ≡ b
    by_test true = refl
    by_test false = refl

-- one more key is one more name
pub added : (keys : List Key) (key : Key) (name : List ℕ) → text key ≡ name
    → map text (insert_key string_eq keys key) ≡ with_name (map text keys) name
added keys key name is =
    by_test (list_any (string_eq key) keys)
    ∙ (ap (λ b. if b then map text keys else map text keys ++ text key ∷ [])
    (sym (any_map (bytes_eq (text key)) text keys)
    ∙ sym (is_placed (bytes_eq (text key)) (map text keys)))
    ∙ ap (with_name (map text keys)) is)
  where
    by_test : (b : Bool) → map text (if b then keys else keys ++ key ∷ [])
        ≡ (if b then map text keys else map text keys ++ text key ∷ [])
    by_test true = refl
    by_test false = map-append text keys (key ∷ [])

-- the names of equal tables are equal

pub equal : (one other : List Key) (same : Bool) → same ≡ pointwise string_eq one other
    → Decides same (map text one ≡ map text other)
equal one other same is =
    slice_eq-Decides {E = bytes_eq} bytes_eq-Decides (map text one) (map text other) same
    (is ∙ sym (pointwise-map text bytes_eq one other))

-- a key that comes behind others is none of them

other_than : (key : Key) (keys : List Key) (i : ℕ) (x : Key)
    → AllByRecursion (λ y. string_eq x y ≡ false) keys → slice_get keys i ≡ Some key
    → string_eq key x ≡ false
other_than key [] i x all at = cc
other_than key (y ∷ keys) zero x all at =
    subst (λ k. string_eq k x ≡ false) (ap (λ k. unwrap_or k y) at)
    (string_eq_equiv.symm y x ∙ all.0)
other_than key (y ∷ keys) (suc i) x all at = other_than key keys i x all.1 at

fresh : (keys : List Key) (i : ℕ) (key : Key) → IsDistinct string_eq keys
    → slice_get keys i ≡ Some key → list_any (string_eq key) (take i keys) ≡ false
fresh [] i key distinct at = cc
fresh (x ∷ keys) zero key distinct at = refl
fresh (x ∷ keys) (suc i) key distinct at =
    let own = other_than key keys i x (IsDistinct-head string_eq x keys distinct) at in
    let rest = fresh keys i key (IsDistinct-tail string_eq x keys distinct) at in
    ap (λ b. b || list_any (string_eq key) (take i keys)) own ∙ rest

pub next_added : (keys : List Key) (i : ℕ) (key : Key) → IsDistinct string_eq keys
    → slice_get keys i ≡ Some key
    → with_name (map text (take i keys)) (text key) ≡ map text (take (i + 1) keys)
next_added keys i key distinct at =
    let next : suc i ≡ i + 1 = omega arith in
    ap (λ b. if b then map text (take i keys) else map text (take i keys) ++ text key ∷ [])
    (is_placed (bytes_eq (text key)) (map text (take i keys))
    ∙ (any_map (bytes_eq (text key)) text (take i keys) ∙ fresh keys i key distinct at))
    ∙ (sym (map-append text (take i keys) (key ∷ [])) ∙ ap (map text)
    (ap (λ last. take i keys ++ last ∷ []) (sym (get_or_from_slice_get keys i key key at))
    ∙ (sym (take-suc keys i key (slice_get_within keys i key at))
    ∙ ap (λ n. take n keys) next)))
