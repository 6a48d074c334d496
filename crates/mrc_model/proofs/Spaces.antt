-- The laws of spaces: an unused name has no entry, and the entry that a port is found under is its
-- own.
use Rattle.std.proofs.Common.{◌≡◌, ℕ, ◌+◌, ◌<◌, ◌≤◌, Bool, true, false, T, List, [], ◌∷◌, Some}
use Rattle.std.proofs.Common.{Option, ap, None, refl, sym, ◌∙◌, subst, arith, ◌==◌, nat_lt, if◌then◌else◌}
use Rattle.std.proofs.lemmas.Bool.{ltb-true, ltb-false, eqb-true, eqb-false, ne_eqb}
use Rattle.std.specs.Option.{unwrap_or}
use Rattle.mrc_model.specs.declared.Entry.{Entry}
use Rattle.mrc_model.specs.Rising.{is_rising, find_key, right_holds}
use Rattle.mrc_model.specs.Map.{empty, get, insert, len}
use Rattle.mrc_model.specs.World.{Space, Store, set_space, space}
use Rattle.mrc_model.specs.Space.{least_from, unused, is_entry_of, first_entry, entry_of}
use Rattle.mrc_model.specs.Space.{put_entry}
use Rattle.mrc_model.proofs.Maps.{same_Some, not_None, find_later, find_here, find_low, if_false}
use Rattle.mrc_model.proofs.Maps.{get-insert_same, get-insert_other, get-remove_same}
use Rattle.mrc_model.proofs.Maps.{get-remove_other, len-insert}

pub least_is_later : {X : Type 0} (k : ℕ) (es : List (ℕ × X)) → k ≤ least_from k es
least_is_later k [] = omega arith
least_is_later k (e ∷ es) =
    let a = least_is_later (k + 1) es in
    let b = least_is_later k es in
    elim (e.0 == k) as (λ c. k ≤
    (if c then least_from (k + 1) es else if nat_lt e.0 k then least_from k es else k)) [
      | true ↦ omega arith
      | false ↦ elim (nat_lt e.0 k) as
          (λ c. k ≤ (if c then least_from k es else k)) [ true ↦ b | false ↦ omega arith ]
    ]

apart_find : {X : Type 0} (e : ℕ × X) (es : List (ℕ × X)) (k : ℕ) → (k ≡ e.0 → ⊥)
    → find_key k es ≡ None → find_key k (e ∷ es) ≡ None
apart_find e es k n is = if_false (k == e.0) (Some e.1) (find_key k es) (ne_eqb k e.0 n) ∙ is

least_is_unused : {X : Type 0} (low k : ℕ) (es : List (ℕ × X)) → T (is_rising low es)
    → find_key (least_from k es) es ≡ None
least_is_unused low k [] r = refl
least_is_unused low k (e ∷ es) r =
    elim (e.0 == k) as (λ c. (e.0 == k) ≡ c → find_key
    (if c then least_from (k + 1) es else if nat_lt e.0 k then least_from k es else k) (e ∷ es)
    ≡ None) [
      | true ↦ λ t. let h : e.0 ≡ k = eqb-true e.0 k t in let l = least_is_later (k + 1) es in
          apart_find e es (least_from (k + 1) es)
          (λ (z : least_from (k + 1) es ≡ e.0). absurd (omega arith))
          (least_is_unused (e.0 + 1) (k + 1) es (right_holds _ _ r))
      | false ↦ λ t. elim (nat_lt e.0 k) as (λ c. nat_lt e.0 k ≡ c
          → find_key (if c then least_from k es else k) (e ∷ es) ≡ None) [
            | true ↦ λ u. let h : e.0 < k = ltb-true e.0 k u in let l = least_is_later k es in
                apart_find e es (least_from k es)
                (λ (z : least_from k es ≡ e.0). absurd (omega arith))
                (least_is_unused (e.0 + 1) k es (right_holds _ _ r))
            | false ↦ λ u. let h : k ≤ e.0 = ltb-false e.0 k u in
                apart_find e es k (λ z. eqb-false e.0 k t (sym z))
                (find_low (e.0 + 1) k es (right_holds _ _ r) (omega arith))
          ] refl
    ] refl

-- the least unused name has no entry
pub get-unused : (x : Space) → get x (unused x) ≡ None
unfolding get unused
get-unused x = least_is_unused 0 1 x.list x.rising

entry_found : (low p : ℕ) (es : List (ℕ × Entry)) (f : ℕ × Entry) → T (is_rising low es)
    → first_entry p es ≡ Some f → (find_key f.0 es ≡ Some f.1) × (is_entry_of p f.1 ≡ true)
entry_found low p [] f r is = absurd (not_None f (sym is))
entry_found low p (e ∷ es) f r is =
    let go : (b : Bool) → is_entry_of p e.1 ≡ b → (if b then Some e else first_entry p es) ≡ Some f
    → (find_key f.0 (e ∷ es) ≡ Some f.1) × (is_entry_of p f.1 ≡ true) = elim [
      | true ↦ λ t z. let same : e ≡ f = same_Some e f z in
          subst (λ v. (find_key v.0 (e ∷ es) ≡ Some v.1) × (is_entry_of p v.1 ≡ true)) same
          (find_here e es, t)
      | false ↦ λ t z. let rest = entry_found (e.0 + 1) p es f (right_holds _ _ r) z in
          (find_later low e es f.0 f.1 r rest.0, rest.1)
    ] in
    go (is_entry_of p e.1) refl is

-- the entry that a port is found under stands there, and is the port's
pub entry_of-some : (x : Space) (p : ℕ) (f : ℕ × Entry) → entry_of x p ≡ Some f
    → (get x f.0 ≡ Some f.1) × (is_entry_of p f.1 ≡ true)
unfolding get entry_of
entry_of-some x p f is = entry_found 0 p x.list f x.rising is

-- the name has the entry that was put under it
pub put_entry_same : (x : Space) (n : ℕ) (o : Option Entry) → get (put_entry x n o) n ≡ o
put_entry_same x n None = get-remove_same x n
put_entry_same x n (Some e) = get-insert_same x n e

-- the other names keep their entries
pub put_entry_other : (x : Space) (n q : ℕ) (o : Option Entry) → (q ≡ n → ⊥)
    → get (put_entry x n o) q ≡ get x q
put_entry_other x n q None other = get-remove_other x n q other
put_entry_other x n q (Some e) other = get-insert_other x n e q other

-- a new entry is one name more at most
pub len_after : (x : Space) (n : ℕ) (e : Entry) → len (insert x n e) ≤ len x + 1
len_after x n e = let a = len-insert x n e in omega arith

-- the task has the space that it was given
pub space-set_same : (s : Store) (t : ℕ) (x : Space) → space (set_space s t x) t ≡ x
space-set_same s t x = ap (λ o. unwrap_or o empty) (get-insert_same s.spaces t x)

-- the other tasks keep their spaces
pub space-set_other : (s : Store) (t u : ℕ) (x : Space) → (u ≡ t → ⊥)
    → space (set_space s t x) u ≡ space s u
space-set_other s t u x other = ap (λ o. unwrap_or o empty) (get-insert_other s.spaces t x u other)
