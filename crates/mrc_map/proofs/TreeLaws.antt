-- Entries of a tree, read as the definitions' maps: what an edit of the list is to the map.
use Rattle.std.proofs.Common.{◌≡◌, ℕ, ◌+◌, ◌<◌, ◌≤◌, true, false, T, List, [], ◌∷◌}
use Rattle.std.proofs.Common.{Option, Some, None, refl, sym, ◌∙◌, ap, subst, arith, cond, ◌==◌}
use Rattle.std.proofs.Common.{nat_lt, inl, inr}
use Rattle.std.specs.Prelude.{IsSome, ⊤}
use Rattle.std.specs.Option.{IfSome}
use Rattle.std.specs.Ordering.{is_gt}
use Rattle.std.specs.List.{slice_get}
use Rattle.std.proofs.lemmas.Bool.Decides.{nat_tests}
use Rattle.std.proofs.lemmas.Bool.{lt-ltb, le-ltb, eq-eqb, ne_eqb, cases_order}
use Rattle.std.specs.Ordering.{nat_cmp}
use Rattle.std.specs.Cmp.{nat_cmp_is}
use Rattle.std.specs.declared.cmp.Ordering.TheVariants.{Less, Equal, Greater}
use Rattle.std.specs.Map.{lookup, remove_entry, keys_of}
use Rattle.std.specs.BTreeMap.{is_at, insert_entry}
use Rattle.std.specs.List.Sorted.{IsStrictlySortedBy}
use Rattle.std.specs.List.{AllByRecursion}
use Rattle.mrc_model.specs.Rising.{is_rising, find_key, put_key, cons_some, alter_list, both_hold}
use Rattle.mrc_model.specs.Rising.{is_at_least, right_holds}
use Rattle.mrc_model.specs.Map.{Map, get, insert, remove, alter_all, all_but}
use Rattle.mrc_model.proofs.Maps.{if_true, if_false}
use Rattle.mrc_map.specs.Entries.{map_of, IsRising, IsNext}
use Rattle.mrc_map.proofs.EntryLaws.{shows, Shows, view_list, list-map_of, keep_all}
use Rattle.mrc_map.proofs.MemberLaws.{is_up}

at_is : (k j : ℕ) → is_at (nat_cmp k) j ≡ (k == j)
at_is k j = grind (arith, nat_tests)

-- what a tree finds is what the list has at the key
pub lookup_is : {X : Type 0} (k : ℕ) (es : List (ℕ × X))
    → lookup (is_at (nat_cmp k)) es ≡ find_key k es
lookup_is k [] = refl
lookup_is k (e ∷ es) = rw (at_is k e.0, lookup_is k es) refl

-- what it has at a key is what its map has
pub tree_get : {X : Type 0} (k : ℕ) (es : List (ℕ × X)) (m : Map X)
    → IsRising es
    → map_of es ≡ m
    → lookup (is_at (nat_cmp k)) es ≡ get m k
unfolding get
tree_get k es m r v = lookup_is k es ∙ ap (find_key k) (view_list es m r v)

is_less : (x y : ℕ) → nat_cmp x y ≡ Less → x < y
is_less x y h = grind (arith, nat_tests)

above : (k : ℕ) (ks : List ℕ)
    → AllByRecursion (λ q. nat_cmp k q ≡ Less) ks
    → AllByRecursion (λ q. k + 1 ≤ q) ks
above k [] h = tt
above k (j ∷ ks) h = (omega (arith, is_less k j h.0), above k ks h.1)

-- a list whose keys are sorted rises from each number that its first key is not below
sorted_rises : {X : Type 0} (low : ℕ) (es : List (ℕ × X))
    → AllByRecursion (λ q. low ≤ q) (keys_of es)
    → IsStrictlySortedBy nat_cmp (keys_of es)
    → T (is_rising low es)
unfolding IsStrictlySortedBy
sorted_rises low [] a s = tt
sorted_rises low (e ∷ es) a s =
    both_hold _ _ (is_at_least low e.0 a.0)
    (sorted_rises (e.0 + 1) es (above e.0 (keys_of es) s.0) s.1)

from_zero : (ks : List ℕ) → AllByRecursion (λ q. 0 ≤ q) ks
from_zero [] = tt
from_zero (k ∷ ks) = (omega arith, from_zero ks)

-- the keys of a tree rise
pub ordered_rises : {X : Type 0} (es : List (ℕ × X))
    → IsStrictlySortedBy nat_cmp (keys_of es)
    → IsRising es
unfolding IsRising
ordered_rises es s = sorted_rises 0 es (from_zero (keys_of es)) s

-- an insertion in a tree is one in the list
put_is : {X : Type 0} (k : ℕ) (v : X) (es : List (ℕ × X))
    → insert_entry nat_cmp es k v ≡ put_key k v es
put_is k v [] = refl
put_is k v (e ∷ es) = elim (cases_order k e.0) [
  | inl same ↦ rw (
    sym (nat_cmp_is k e.0 Equal same),
    if_false (nat_lt k e.0) _ _ (le-ltb k e.0 (omega arith)),
    if_true (k == e.0) _ _ (eq-eqb k e.0 same),
  ) (ap (λ j. (j, v) ∷ es) (sym same))
  | inr (inl less) ↦ rw (
    sym (nat_cmp_is k e.0 Less less),
    if_true (nat_lt k e.0) _ _ (lt-ltb k e.0 less),
  ) refl
  | inr (inr more) ↦ rw (
    sym (nat_cmp_is k e.0 Greater more),
    if_false (nat_lt k e.0) _ _ (le-ltb k e.0 (omega arith)),
    if_false (k == e.0) _ _ (ne_eqb k e.0 (λ z. absurd (omega arith))),
  )
      (ap (λ xs. e ∷ xs) (put_is k v es))
]

-- so the tree shows the map with the entry
pub tree_insert : {X : Type 0} (k : ℕ) (v : X) (es xs : List (ℕ × X)) (m : Map X)
    → IsRising es
    → map_of es ≡ m
    → xs ≡ insert_entry nat_cmp es k v
    → Shows xs (insert m k v)
unfolding insert
tree_insert k v es xs m r w e =
    shows xs _ (e ∙ put_is k v es ∙ ap (put_key k v) (view_list es m r w))

-- a key that goes from a tree goes from the list
out_is : {X : Type 0} (low k : ℕ) (es : List (ℕ × X))
    → T (is_rising low es)
    → remove_entry (is_at (nat_cmp k)) es ≡ alter_list (all_but k) es
out_is low k [] r = refl
out_is {X} low k (e ∷ es) r = elim (k == e.0) as (λ b. (k == e.0) ≡ b
    → cond (is_at (nat_cmp k) e.0) es (e ∷ remove_entry (is_at (nat_cmp k)) es)
    ≡ alter_list (all_but k) (e ∷ es)) [
      | true ↦ λ t. let same : e.0 ≡ k = eq_of k e.0 t in
          rw (at_is k e.0, t) (sym (ap (λ o. cons_some e.0 o (alter_list (all_but k) es))
          (if_true (e.0 == k) None (Some e.1) (eq-eqb e.0 k same))
          ∙ keep_all (e.0 + 1) k es (right_holds _ _ r) (omega arith)))
      | false ↦ λ t. let apart : e.0 ≡ k → ⊥ = ne_of k e.0 t in
          rw (at_is k e.0, t) (sym (ap (λ o. cons_some e.0 o (alter_list (all_but k) es))
          (if_false (e.0 == k) None (Some e.1) (ne_eqb e.0 k apart))
          ∙ ap (λ xs. e ∷ xs) (sym (out_is (e.0 + 1) k es (right_holds _ _ r)))))
    ] refl
  where
    eq_of : (x y : ℕ) → (x == y) ≡ true → y ≡ x
    eq_of x y h = grind (arith, nat_tests)

    ne_of : (x y : ℕ) → (x == y) ≡ false → y ≡ x → ⊥
    ne_of x y h z = grind (arith, nat_tests)

pub tree_remove : {X : Type 0} (k : ℕ) (es xs : List (ℕ × X)) (m : Map X)
    → IsRising es
    → map_of es ≡ m
    → xs ≡ remove_entry (is_at (nat_cmp k)) es
    → Shows xs (remove m k)
unfolding IsRising alter_all
tree_remove k es xs m r w e =
    shows xs _ (e ∙ out_is 0 k es r ∙ ap (alter_list (all_but k)) (view_list es m r w))

-- what stays of a tree
pub tree_retained : {X : Type 0} (R : List (ℕ × X) → List (ℕ × X) → Type 0)
    (es fs : List (ℕ × X)) (m : Map X)
    → IsRising es
    → map_of es ≡ m
    → IsRising fs
    → R es fs
    → R m.list (map_of fs).list
tree_retained R es fs m r w s h =
    subst (λ xs. R m.list xs) (sym (list-map_of fs s))
    (subst (λ xs. R xs fs) (view_list es m r w) h)

above_is : (k q : ℕ) → k ≤ q → is_gt (nat_cmp k q) ≡ false
above_is k q h = grind (arith, nat_tests)

some_is : {X : Type 0} (o : Option X) → (IsSome o → ⊥) → o ≡ None
some_is None h = refl
some_is (Some x) h = absurd (h refl)

-- where no entry lies in the range from a key on, none is there
pub none_from : {X : Type 0} (k : ℕ) (es r : List (ℕ × X)) (m : Map X)
    → IsRising es
    → map_of es ≡ m
    → (r ≡ [] → (q : ℕ) → (is_gt (nat_cmp k q) ≡ false) × ⊤ → lookup (is_at (nat_cmp q)) es ≡ None)
    → r ≡ []
    → (q : ℕ) → k ≤ q → get m q ≡ None
none_from k es r m s v none is q h =
    sym (tree_get q es m s v) ∙ none is q (above_is k q h, tt)

-- the first entry of that range is the next one
pub first_from : {X : Type 0} (k : ℕ) (es : List (ℕ × X)) (e : ℕ × X) (m : Map X)
    → IsRising es
    → map_of es ≡ m
    → (is_gt (nat_cmp k e.0) ≡ false)
    → lookup (is_at (nat_cmp e.0)) es ≡ Some e.1
    → ((q : ℕ) → (is_gt (nat_cmp k q) ≡ false) × ⊤ → IsSome (lookup (is_at (nat_cmp q)) es)
    → is_gt (nat_cmp e.0 q) ≡ false)
    → IsNext m k e.0 e.1
first_from k es e m s v above at least = record {
  at = sym (tree_get e.0 es m s v) ∙ at;
  above = is_up k e.0 above;
  first = λ j h l. sym (tree_get j es m s v) ∙ some_is _ (λ t.
      let up : e.0 ≤ j = is_up e.0 j (least j (above_is k j h, tt) t) in absurd (omega arith));
}

-- what is told of the first of a list
pub head_fact : {X : Type 0} (P : ℕ × X → Type 0) (r rest : List (ℕ × X)) (e : ℕ × X)
    → r ≡ e ∷ rest
    → IfSome (slice_get r 0) P
    → P e
head_fact P r rest e is h = subst (λ z. IfSome (slice_get z 0) P) is h
