-- Lists of pairs in code, read as the model's maps: what an edit of the list is to the map.
use Rattle.std.proofs.Common.{◌≡◌, ℕ, suc, ◌+◌, ◌<◌, ◌≤◌, inl, inr, Bool, true, false, T, List, []}
use Rattle.std.proofs.Common.{◌∷◌, length, Option, Some, None, refl, sym, ◌∙◌, ap, subst, arith}
use Rattle.std.proofs.Common.{nat_lt, ◌==◌, if◌then◌else◌}
use Rattle.std.proofs.lemmas.Option.{slice_get-get_or}
use Rattle.std.specs.List.{slice_get, slice_index_or, insert as insert_at, remove as remove_at}
use Rattle.std.specs.List.{slice_set}
use Rattle.std.proofs.lemmas.Bool.{ltb-true, ltb-false, lt-ltb, le-ltb, eq-eqb, ne_eqb, cases_eq}
use Rattle.std.specs.Prelude.{IsSome}
use Rattle.mrc_model.specs.Rising.{is_rising, find_key, put_key, cons_some, alter_list, left_holds}
use Rattle.mrc_model.specs.Rising.{right_holds, at_least}
use Rattle.mrc_model.specs.Map.{Map, empty, get, insert, remove, alter_all, all_but, len}
use Rattle.mrc_model.proofs.Maps.{same_list, not_None, find_low, if_true, if_false}
use Rattle.mrc_map.specs.Entries.{checked_map, map_of, IsRising, place, at_key, IsAt, IsMissingAt}

-- a list that passed the test is its map's
list_checked : {X : Type 0} (b : Bool) (es : List (ℕ × X)) (h : T b → T (is_rising 0 es))
    → T b
    → (checked_map b es h).list ≡ es
list_checked true es h r = refl
list_checked false es h r = absurd r

-- the entries of the map are those of the list
pub list-map_of : {X : Type 0} (es : List (ℕ × X)) → IsRising es → (map_of es).list ≡ es
unfolding map_of IsRising
list-map_of es r = list_checked (is_rising 0 es) es (λ h. h) r

-- a list with the entries of a map is that map
pub map_is : {X : Type 0} (es : List (ℕ × X)) (m : Map X) → es ≡ m.list → map_of es ≡ m
unfolding IsRising
map_is es m e =
    same_list (map_of es) m (list-map_of es (subst (λ xs. T (is_rising 0 xs)) (sym e) m.rising) ∙ e)

-- and its keys rise
pub rises : {X : Type 0} (es : List (ℕ × X)) (m : Map X) → es ≡ m.list → IsRising es
unfolding IsRising
rises es m e = subst (λ xs. T (is_rising 0 xs)) (sym e) m.rising

-- the keys of a list without entries rise
pub rising_empty : {X : Type 0} (es : List (ℕ × X)) → es ≡ [] → IsRising es
unfolding empty
rising_empty es e = rises es empty e

-- its map is the empty one
pub map_empty : {X : Type 0} (es : List (ℕ × X)) → es ≡ [] → map_of es ≡ empty
unfolding empty
map_empty es e = map_is es empty e

-- a place is not past the end
pub place_within : {X : Type 0} (k : ℕ) (es : List (ℕ × X)) → place k es ≤ length es
place_within k [] = omega arith
place_within k (e ∷ es) =
    let rest = place_within k es in
    elim (nat_lt e.0 k) as (λ b. (if b then suc (place k es) else 0) ≤ suc (length es)) [
      | true ↦ omega arith
      | false ↦ omega arith
    ]

-- what a list has at a key stands at the key's place
find_place : {X : Type 0} (low k : ℕ) (es : List (ℕ × X))
    → T (is_rising low es)
    → find_key k es ≡ at_key k (slice_get es (place k es))
find_place low k [] r = refl
find_place {X} low k (e ∷ es) r =
    elim (nat_lt e.0 k) as (λ b. nat_lt e.0 k ≡ b
    → (if k == e.0 then Some e.1 else find_key k es)
    ≡ at_key k (slice_get (e ∷ es) (if b then suc (place k es) else 0))) [
      | true ↦ λ t.
          let h : e.0 < k = ltb-true e.0 k t in
          if_false (k == e.0) (Some e.1) (find_key k es)
          (ne_eqb k e.0 (λ z. absurd (omega arith)))
          ∙ find_place (e.0 + 1) k es (right_holds _ _ r)
      | false ↦ λ t. let h : k ≤ e.0 = ltb-false e.0 k t in
          let none : find_key k es ≡ None =
          find_low (e.0 + 1) k es (right_holds _ _ r) (omega arith) in
          ap (λ o. if k == e.0 then Some e.1 else o) none
    ] refl

-- what the map has at a key
pub get_at : {X : Type 0} (k : ℕ) (es : List (ℕ × X))
    → IsRising es
    → get (map_of es) k ≡ at_key k (slice_get es (place k es))
unfolding get IsRising
get_at k es r = ap (find_key k) (list-map_of es r) ∙ find_place 0 k es r

-- a new key is put in at its place
put_new : {X : Type 0} (k : ℕ) (v : X) (es : List (ℕ × X))
    → at_key k (slice_get es (place k es)) ≡ None
    → put_key k v es ≡ insert_at es (place k es) (k, v)
put_new k v [] n = refl
put_new {X} k v (e ∷ es) n =
    elim (nat_lt e.0 k) as (λ b. nat_lt e.0 k ≡ b
    → at_key k (slice_get (e ∷ es) (if b then suc (place k es) else 0)) ≡ None
    → (if nat_lt k e.0 then (k, v) ∷ e ∷ es
    else if k == e.0 then (k, v) ∷ es else e ∷ put_key k v es)
    ≡ insert_at (e ∷ es) (if b then suc (place k es) else 0) (k, v)) [
      | true ↦ λ t o. let h : e.0 < k = ltb-true e.0 k t in
          if_false (nat_lt k e.0) _ _ (le-ltb k e.0 (omega arith))
          ∙ if_false (k == e.0) _ _ (ne_eqb k e.0 (λ z. absurd (omega arith)))
          ∙ ap (λ xs. e ∷ xs) (put_new k v es o)
      | false ↦ λ t o. let h : k ≤ e.0 = ltb-false e.0 k t in
          elim (cases_eq k e.0) [
            | inl same ↦
                absurd (not_None e.1
                (sym (if_true (k == e.0) (Some e.1) None (eq-eqb k e.0 same)) ∙ o))
            | inr apart ↦ if_true (nat_lt k e.0) _ _ (lt-ltb k e.0 (omega arith))
          ]
    ] refl n

-- an old key has another value at its place
put_old : {X : Type 0} (k : ℕ) (v x : X) (es : List (ℕ × X))
    → at_key k (slice_get es (place k es)) ≡ Some x
    → put_key k v es ≡ slice_set es (place k es) (k, v)
put_old k v x [] n = absurd (not_None x (sym n))
put_old {X} k v x (e ∷ es) n =
    elim (nat_lt e.0 k) as (λ b. nat_lt e.0 k ≡ b
    → at_key k (slice_get (e ∷ es) (if b then suc (place k es) else 0)) ≡ Some x
    → (if nat_lt k e.0 then (k, v) ∷ e ∷ es
    else if k == e.0 then (k, v) ∷ es else e ∷ put_key k v es)
    ≡ slice_set (e ∷ es) (if b then suc (place k es) else 0) (k, v)) [
      | true ↦ λ t o. let h : e.0 < k = ltb-true e.0 k t in
          if_false (nat_lt k e.0) _ _ (le-ltb k e.0 (omega arith))
          ∙ if_false (k == e.0) _ _ (ne_eqb k e.0 (λ z. absurd (omega arith)))
          ∙ ap (λ xs. e ∷ xs) (put_old k v x es o)
      | false ↦ λ t o. let h : k ≤ e.0 = ltb-false e.0 k t in
          elim (cases_eq k e.0) [
            | inl same ↦
                if_false (nat_lt k e.0) _ _ (le-ltb k e.0 (omega arith))
                ∙ if_true (k == e.0) _ _ (eq-eqb k e.0 same)
            | inr apart ↦
                absurd (not_None x
                (sym o ∙ if_false (k == e.0) (Some e.1) None (ne_eqb k e.0 apart)))
          ]
    ] refl n

-- nothing goes where no key is the one
pub keep_all : {X : Type 0} (low k : ℕ) (es : List (ℕ × X))
    → T (is_rising low es)
    → k < low
    → alter_list (all_but k) es ≡ es
keep_all low k [] r h = refl
keep_all {X} low k (e ∷ es) r h =
    let m : low ≤ e.0 = at_least low e.0 (left_holds _ _ r) in
    ap (λ o. cons_some e.0 o (alter_list (all_but k) es))
    (if_false (e.0 == k) None (Some e.1) (ne_eqb e.0 k (λ z. absurd (omega arith))))
    ∙ ap (λ xs. e ∷ xs) (keep_all (e.0 + 1) k es (right_holds _ _ r) (omega arith))

-- an old key goes from its place
take_out : {X : Type 0} (low k : ℕ) (x : X) (es : List (ℕ × X))
    → T (is_rising low es)
    → at_key k (slice_get es (place k es)) ≡ Some x
    → alter_list (all_but k) es ≡ remove_at es (place k es)
take_out low k x [] r n = absurd (not_None x (sym n))
take_out {X} low k x (e ∷ es) r n =
    elim (nat_lt e.0 k) as (λ b. nat_lt e.0 k ≡ b
    → at_key k (slice_get (e ∷ es) (if b then suc (place k es) else 0)) ≡ Some x
    → alter_list (all_but k) (e ∷ es)
    ≡ remove_at (e ∷ es) (if b then suc (place k es) else 0)) [
      | true ↦ λ t o. let h : e.0 < k = ltb-true e.0 k t in
          ap (λ z. cons_some e.0 z (alter_list (all_but k) es))
          (if_false (e.0 == k) None (Some e.1) (ne_eqb e.0 k (λ z. absurd (omega arith))))
          ∙ ap (λ xs. e ∷ xs) (take_out (e.0 + 1) k x es (right_holds _ _ r) o)
      | false ↦ λ t o. let h : k ≤ e.0 = ltb-false e.0 k t in
          elim (cases_eq k e.0) [
            | inl same ↦
                ap (λ z. cons_some e.0 z (alter_list (all_but k) es))
                (if_true (e.0 == k) None (Some e.1) (eq-eqb e.0 k (sym same)))
                ∙ keep_all (e.0 + 1) k es (right_holds _ _ r) (omega arith)
            | inr apart ↦
                absurd (not_None x
                (sym o ∙ if_false (k == e.0) (Some e.1) None (ne_eqb k e.0 apart)))
          ]
    ] refl n

-- a new key: the list with the entry at its place
pub inserted : {X : Type 0} (k : ℕ) (v : X) (es xs : List (ℕ × X))
    → IsRising es
    → get (map_of es) k ≡ None
    → xs ≡ insert_at es (place k es) (k, v)
    → xs ≡ (insert (map_of es) k v).list
unfolding insert
inserted k v es xs r n e =
    e ∙ sym (put_new k v es (sym (get_at k es r) ∙ n)) ∙ ap (put_key k v) (sym (list-map_of es r))

-- an old key: the list with another value there
pub replaced : {X : Type 0} (k : ℕ) (v x : X) (es xs : List (ℕ × X))
    → IsRising es
    → get (map_of es) k ≡ Some x
    → xs ≡ slice_set es (place k es) (k, v)
    → xs ≡ (insert (map_of es) k v).list
unfolding insert
replaced k v x es xs r n e =
    e ∙ sym (put_old k v x es (sym (get_at k es r) ∙ n)) ∙ ap (put_key k v) (sym (list-map_of es r))

-- an old key that goes
pub removed : {X : Type 0} (k : ℕ) (x : X) (es xs : List (ℕ × X))
    → IsRising es
    → get (map_of es) k ≡ Some x
    → xs ≡ remove_at es (place k es)
    → xs ≡ (remove (map_of es) k).list
unfolding alter_all IsRising
removed k x es xs r n e =
    e ∙ sym (take_out 0 k x es r (sym (get_at k es r) ∙ n))
    ∙ ap (alter_list (all_but k)) (sym (list-map_of es r))

-- another key stands there
pub none_at : {X : Type 0} (k : ℕ) (es : List (ℕ × X)) (i : ℕ) (e : ℕ × X)
    → i < length es
    → ((slice_index_or es i e).0 ≡ k → ⊥)
    → at_key k (slice_get es i) ≡ None
none_at k es i e within apart =
    ap (at_key k) (slice_get-get_or es i e within)
    ∙ if_false (k == (slice_index_or es i e).0) (Some (slice_index_or es i e).1) None
    (ne_eqb k (slice_index_or es i e).0 (λ z. apart (sym z)))

-- at the place of a key that is found stands its value
found_there : {X : Type 0} (k : ℕ) (es : List (ℕ × X)) (i : ℕ) (d : ℕ × X)
    → IsAt k es i
    → at_key k (slice_get es (place k es)) ≡ Some (slice_index_or es i d).1
found_there k es i d f =
    ap (λ j. at_key k (slice_get es j)) (sym f.place)
    ∙ ap (at_key k) (slice_get-get_or es i d f.inside)
    ∙ if_true (k == (slice_index_or es i d).0) (Some (slice_index_or es i d).1) None
    (eq-eqb k (slice_index_or es i d).0 (sym (f.key d)))

-- so the map has that value at the key
pub found_get : {X : Type 0} (k : ℕ) (es : List (ℕ × X)) (m : Map X) (i : ℕ) (d : ℕ × X)
    → IsRising es
    → map_of es ≡ m
    → IsAt k es i
    → get m k ≡ Some (slice_index_or es i d).1
found_get k es m i d r v f = ap (λ n. get n k) (sym v) ∙ get_at k es r ∙ found_there k es i d f

-- and none at a key that is missing
pub absent_get : {X : Type 0} (k : ℕ) (es : List (ℕ × X)) (m : Map X) (i : ℕ)
    → IsRising es
    → map_of es ≡ m
    → IsMissingAt k es i
    → get m k ≡ None
absent_get k es m i r v a =
    ap (λ n. get n k) (sym v) ∙ get_at k es r ∙ ap (λ j. at_key k (slice_get es j)) (sym a.place)
    ∙ a.none

-- a list that is the map's
abbrev pub Shows : {X : Type 0} → List (ℕ × X) → Map X → Type 0
Shows es m = (IsRising es) × (map_of es ≡ m)

-- a list with the entries of a map is that map's
pub shows : {X : Type 0} (es : List (ℕ × X)) (m : Map X) → es ≡ m.list → Shows es m
shows es m e = (rises es m e, map_is es m e)

-- another value where a key was found is an insertion
pub written : {X : Type 0} (k : ℕ) (v : X) (es xs : List (ℕ × X)) (m : Map X) (i : ℕ) (d : ℕ × X)
    → IsRising es
    → map_of es ≡ m
    → IsAt k es i
    → d ≡ slice_index_or es i d
    → xs ≡ slice_set es i (d.0, v)
    → Shows xs (insert m k v)
written k v es xs m i d r w f h e =
    let key : d.0 ≡ k = ap (λ z. z.0) h ∙ f.key d in
    let spelled : xs ≡ slice_set es (place k es) (k, v) =
    e ∙ ap (λ q. slice_set es i (q, v)) key ∙ ap (λ j. slice_set es j (k, v)) f.place in
    subst (λ n. Shows xs (insert n k v)) w
    (shows xs _ (replaced k v (slice_index_or es i d).1 es xs r
    (get_at k es r ∙ found_there k es i d f) spelled))

-- the list that is a map's has its entries
pub view_list : {X : Type 0} (es : List (ℕ × X)) (m : Map X)
    → IsRising es
    → map_of es ≡ m
    → es ≡ m.list
view_list es m r v = sym (list-map_of es r) ∙ ap (λ n. n.list) v

-- and as many of them
pub view_len : {X : Type 0} (es : List (ℕ × X)) (m : Map X)
    → IsRising es
    → map_of es ≡ m
    → length es ≡ len m
unfolding len
view_len es m r v = ap length (view_list es m r v)

-- an entry where a key is missing is an insertion
pub added : {X : Type 0} (k : ℕ) (v : X) (es xs : List (ℕ × X)) (m : Map X) (i : ℕ)
    → IsRising es
    → map_of es ≡ m
    → IsMissingAt k es i
    → xs ≡ insert_at es i (k, v)
    → Shows xs (insert m k v)
added k v es xs m i r w a e =
    let spelled : xs ≡ insert_at es (place k es) (k, v) =
    e ∙ ap (λ j. insert_at es j (k, v)) a.place in
    subst (λ n. Shows xs (insert n k v)) w
    (shows xs _ (inserted k v es xs r (absent_get k es (map_of es) i r refl a) spelled))

-- without the entry where a key was found the key is removed
pub taken_out : {X : Type 0} (k : ℕ) (es xs : List (ℕ × X)) (m : Map X) (i : ℕ) (d : ℕ × X)
    → IsRising es
    → map_of es ≡ m
    → IsAt k es i
    → xs ≡ remove_at es i
    → Shows xs (remove m k)
taken_out k es xs m i d r w f e =
    let spelled : xs ≡ remove_at es (place k es) = e ∙ ap (remove_at es) f.place in
    subst (λ n. Shows xs (remove n k)) w
    (shows xs _ (removed k (slice_index_or es i d).1 es xs r
    (get_at k es r ∙ found_there k es i d f) spelled))

-- where the key is absent nothing goes
without : {X : Type 0} (k : ℕ) (es : List (ℕ × X))
    → find_key k es ≡ None
    → alter_list (all_but k) es ≡ es
without k [] n = refl
without {X} k (e ∷ es) n = elim (cases_eq k e.0) [
  | inl same ↦
      absurd (not_None e.1
      (sym (if_true (k == e.0) (Some e.1) (find_key k es) (eq-eqb k e.0 same)) ∙ n))
  | inr apart ↦
      ap (λ o. cons_some e.0 o (alter_list (all_but k) es))
      (if_false (e.0 == k) None (Some e.1) (ne_eqb e.0 k (λ z. apart (sym z))))
      ∙ ap (λ xs. e ∷ xs)
      (without k es
      (sym (if_false (k == e.0) (Some e.1) (find_key k es) (ne_eqb k e.0 apart)) ∙ n))
]

-- a key that is absent is removed already
pub remove-absent : {X : Type 0} (m : Map X) (k : ℕ) → get m k ≡ None → remove m k ≡ m
unfolding alter_all get
remove-absent m k n = same_list _ m (without k m.list n)

-- no value is none
pub not_some : {X : Type 0} (o : Option X) → o ≡ None → IsSome o → ⊥
not_some {X} o n s = let at : IsSome {T = X} None = subst IsSome n s in cc
