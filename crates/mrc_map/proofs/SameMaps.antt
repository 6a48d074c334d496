-- Maps that give the same at each key are one: so edits of a map may be made in any order that
-- gives the same.
use Rattle.std.proofs.Common.{◌≡◌, ℕ, ◌+◌, ◌<◌, inl, inr, T, List, [], ◌∷◌, Some, None, refl, sym}
use Rattle.std.proofs.Common.{ap, ◌∙◌, arith, ◌==◌}
use Rattle.std.proofs.lemmas.Bool.{cases_eq, cases_order, ne_eqb}
use Rattle.mrc_model.specs.Rising.{is_rising, find_key, right_holds, both_hold, is_at_least}
use Rattle.mrc_model.specs.Map.{Map, get, insert, remove}
use Rattle.mrc_model.proofs.Maps.{same_list, same_Some, not_None, find_low, find_here, if_false}
use Rattle.mrc_model.proofs.Maps.{get-insert_same, get-insert_other, get-remove_same}
use Rattle.mrc_model.proofs.Maps.{get-remove_other}

-- two lists give the same at each key
Same : {X : Type 0} → List (ℕ × X) → List (ℕ × X) → Type 0
Same es fs = (q : ℕ) → find_key q es ≡ find_key q fs

module _ {X : Type 0} where
  -- a list that rises rises from its first key
  from_first : (low : ℕ) (e : ℕ × X) (es : List (ℕ × X))
      → T (is_rising low (e ∷ es))
      → T (is_rising e.0 (e ∷ es))
  from_first low e es r = both_hold _ _ (is_at_least e.0 e.0 (omega arith)) (right_holds _ _ r)

  -- no key of the second list is below the first one of the first
  not_below : (a b : ℕ) (e f : ℕ × X) (es fs : List (ℕ × X))
      → T (is_rising b (f ∷ fs))
      → Same (e ∷ es) (f ∷ fs)
      → e.0 < f.0
      → ⊥
  unfolding Same
  not_below a b e f es fs r s l =
      not_None e.1 (sym (find_here e es) ∙ s e.0 ∙ find_low f.0 e.0 (f ∷ fs)
      (from_first b f fs r) l)

  -- behind the first key the rest decides
  past : (e : ℕ × X) (es : List (ℕ × X)) (q : ℕ)
      → (q ≡ e.0 → ⊥)
      → find_key q (e ∷ es) ≡ find_key q es
  past e es q n = if_false (q == e.0) (Some e.1) (find_key q es) (ne_eqb q e.0 n)

  -- the rests give the same where the first keys are one
  rest_same : (a b : ℕ) (e f : ℕ × X) (es fs : List (ℕ × X))
      → T (is_rising a (e ∷ es))
      → T (is_rising b (f ∷ fs))
      → e.0 ≡ f.0
      → Same (e ∷ es) (f ∷ fs)
      → Same es fs
  unfolding Same
  rest_same a b e f es fs r t k s q = elim (cases_eq q e.0) [
    | inl here ↦
        let left : find_key q es ≡ None = find_low (e.0 + 1) q es (right_holds _ _ r) (omega arith) in
        let right : find_key q fs ≡ None =
        find_low (f.0 + 1) q fs (right_holds _ _ t) (omega arith) in
        left ∙ sym right
    | inr n ↦ sym (past e es q n) ∙ s q ∙ past f fs q (λ z. n (z ∙ sym k))
  ]

  -- so the lists are one
  list_same : (a b : ℕ) (es fs : List (ℕ × X))
      → T (is_rising a es)
      → T (is_rising b fs)
      → Same es fs
      → es ≡ fs
  unfolding Same
  list_same a b [] [] r t s = refl
  list_same a b [] (f ∷ fs) r t s = absurd (not_None f.1 (sym (find_here f fs) ∙ sym (s f.0)))
  list_same a b (e ∷ es) [] r t s = absurd (not_None e.1 (sym (find_here e es) ∙ s e.0))
  list_same a b (e ∷ es) (f ∷ fs) r t s = elim (cases_order e.0 f.0) [
    | inl k ↦
        let v : e.1 ≡ f.1 =
        same_Some e.1 f.1
        (sym (find_here e es) ∙ s e.0 ∙ ap (λ q. find_key q (f ∷ fs)) k ∙ find_here f fs) in
        let rest : es ≡ fs =
        list_same (e.0 + 1) (f.0 + 1) es fs (right_holds _ _ r) (right_holds _ _ t)
        (rest_same a b e f es fs r t k s) in
        λ i. (k i, v i) ∷ rest i
    | inr (inl l) ↦ absurd (not_below a b e f es fs t s l)
    | inr (inr l) ↦ absurd (not_below b a f e fs es r (λ q. sym (s q)) l)
  ]

  -- a map is what it gives at each key
  pub same_map : (m n : Map X) → ((q : ℕ) → get m q ≡ get n q) → m ≡ n
  unfolding get Same
  same_map m n s = same_list m n (list_same 0 0 m.list n.list m.rising n.rising s)

  -- an entry may be put under a new name before the old one goes
  pub remove-insert : (m : Map X) (old new : ℕ) (v : X)
      → (old ≡ new → ⊥)
      → remove (insert m new v) old ≡ insert (remove m old) new v
  remove-insert m old new v apart = same_map _ _ (λ q. elim (cases_eq q new) [
    | inl k ↦
        ap (get (remove (insert m new v) old)) k
        ∙ get-remove_other (insert m new v) old new (λ z. apart (sym z)) ∙ get-insert_same m new v
        ∙ sym (get-insert_same (remove m old) new v)
        ∙ ap (get (insert (remove m old) new v)) (sym k)
    | inr n ↦ elim (cases_eq q old) [
      | inl k ↦
          ap (get (remove (insert m new v) old)) k ∙ get-remove_same (insert m new v) old
          ∙ sym (get-remove_same m old) ∙ ap (get (remove m old)) (sym k)
          ∙ sym (get-insert_other (remove m old) new v q n)
      | inr o ↦
          get-remove_other (insert m new v) old q o ∙ get-insert_other m new v q n
          ∙ sym (get-remove_other m old q o) ∙ sym (get-insert_other (remove m old) new v q n)
    ]
  ])
