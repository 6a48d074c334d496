-- What changes beside a space come to, and what takings leave.
use Rattle.std.proofs.Common.{◌≡◌, ℕ, ◌+◌, List, [], ◌∷◌, Option, Some, None, T, inl, inr}
use Rattle.std.proofs.Common.{refl, sym, ◌∙◌, ap, subst, arith, ◌==◌, cond, nat_eq}
use Rattle.std.proofs.lemmas.Bool.{cases_eq, eq-eqb, ne_eqb}
use Rattle.std.specs.Prelude.{IsSome, ⊤}
use Rattle.std.specs.Map.{lookup, keys_of}
use Rattle.std.specs.List.{IsDistinct}
use Rattle.mrc_model.specs.declared.Entry.{Entry}
use Rattle.mrc_model.specs.Rising.{is_rising, find_key, right_holds}
use Rattle.mrc_model.specs.Map.{Map, empty, get, insert}
use Rattle.mrc_model.specs.World.{Space}
use Rattle.mrc_model.specs.Space.{put_entry}
use Rattle.mrc_model.proofs.Maps.{get-insert_same, get-insert_other, get-empty}
use Rattle.mrc_model.proofs.Maps.{find_here, find_low, if_false}
use Rattle.mrc_model.proofs.Maps.{not_None, Each-insert}
use Rattle.mrc_model.proofs.Spaces.{put_entry_same, put_entry_other}
use Rattle.mrc_map.specs.Rooms.{AreEntries}
use Rattle.mrc_map.proofs.LookupLaws.{gathered_get, fresh}
use Rattle.mrc_map.proofs.SameMaps.{same_map}
use Rattle.mrc_index.specs.Names.{HoldsAlike, IsRestOf}
use Rattle.mrc_index.specs.Undo.{CanPut}
use Rattle.mrc_names.specs.Leaving.{patched_by, patched, HasRest, AreRests}

-- what stands under a name after many changes: what the change of the name says, if there is one
abbrev pub over : Option (Option Entry) → Option Entry → Option Entry
over None held = held
over (Some rest) held = rest

get_by : (low : ℕ) (cs : List (ℕ × Option Entry)) (x : Space) (q : ℕ)
    → T (is_rising low cs)
    → get (patched_by cs x) q ≡ over (find_key q cs) (get x q)
get_by low [] x q r = refl
get_by low (c ∷ cs) x q r =
    get_by (c.0 + 1) cs (put_entry x c.0 c.1) q (right_holds _ _ r)
    ∙ elim (cases_eq q c.0) [
      | inl same ↦
          let late : find_key q cs ≡ None =
          find_low (c.0 + 1) q cs (right_holds _ _ r) (omega arith) in
          ap (λ o. over o (get (put_entry x c.0 c.1) q)) late
          ∙ ap (get (put_entry x c.0 c.1)) same ∙ put_entry_same x c.0 c.1
          ∙ sym (ap (λ o. over o (get x q)) (ap (λ k. find_key k (c ∷ cs)) same ∙ find_here c cs))
      | inr other ↦
          ap (over (find_key q cs)) (put_entry_other x c.0 q c.1 other)
          ∙ ap (λ o. over o (get x q))
          (sym (if_false (q == c.0) (Some c.1) (find_key q cs) (ne_eqb q c.0 other)))
    ]

pub get_patched : (x : Space) (c : Map (Option Entry)) (q : ℕ)
    → get (patched x c) q ≡ over (get c q) (get x q)
unfolding get patched
get_patched x c q = get_by 0 c.list x q c.rising

-- as code finds it
pub get_changed : (x : Space) (c : Map (Option Entry)) (q : ℕ) (rest : Option Entry)
    → get c q ≡ Some rest
    → get (patched x c) q ≡ rest
get_changed x c q rest at = get_patched x c q ∙ ap (λ o. over o (get x q)) at

pub get_unchanged : (x : Space) (c : Map (Option Entry)) (q : ℕ)
    → get c q ≡ None
    → get (patched x c) q ≡ get x q
get_unchanged x c q at = get_patched x c q ∙ ap (λ o. over o (get x q)) at

-- no change
pub patched_none : (x : Space) (c : Map (Option Entry)) → c ≡ empty → patched x c ≡ x
patched_none x c none =
    same_map _ _ (λ q. get_unchanged x c q (ap (λ (m : Map (Option Entry)). get m q) none ∙
    get-empty q))

pub no_rests : (x : Space) (c : Map (Option Entry)) → c ≡ empty → AreRests x c
no_rests x c none = λ n rest at.
    absurd (not_None rest (sym at ∙ ap (λ (m : Map (Option Entry)). get m n) none ∙ get-empty n))

-- one more
pub patched_more : (x : Space) (c : Map (Option Entry)) (n : ℕ) (rest : Option Entry)
    → patched x (insert c n rest) ≡ put_entry (patched x c) n rest
patched_more x c n rest = same_map _ _ (λ q. elim (cases_eq q n) [
  | inl same ↦
      ap (get (patched x (insert c n rest))) same
      ∙ get_changed x (insert c n rest) n rest (get-insert_same c n rest)
      ∙ sym (put_entry_same (patched x c) n rest)
      ∙ ap (get (put_entry (patched x c) n rest)) (sym same)
  | inr other ↦
      get_patched x (insert c n rest) q
      ∙ ap (λ o. over o (get x q)) (get-insert_other c n rest q other)
      ∙ sym (get_patched x c q) ∙ sym (put_entry_other (patched x c) n q rest other)
])

-- what is left of what was left is left
rest_through : (d e : Entry) (rest : Option Entry)
    → HoldsAlike d e
    → IsRestOf e rest
    → IsRestOf d rest
rest_through d e None h k = tt
rest_through d e (Some f) h k = record {
  held = λ p. k.held p ∙ h.held p;
  once = λ p. k.once p ∙ h.once p;
}

origin : (x : Space) (c : Map (Option Entry)) (n : ℕ) (e : Entry) (rest : Option Entry)
    (o : Option (Option Entry))
    → get c n ≡ o
    → AreRests x c
    → over o (get x n) ≡ Some e
    → IsRestOf e rest
    → HasRest x n rest
origin x c n e rest None at rests is left = (e, is, left)
origin x c n e rest (Some former) at rests is left =
    let was : HasRest x n (Some e) = subst (HasRest x n) is (rests n former at) in
    (was.0, was.1, rest_through was.0 e rest was.2 left)

pub rests_more : (x : Space) (c : Map (Option Entry)) (n : ℕ) (rest : Option Entry)
    → AreRests x c
    → HasRest (patched x c) n rest
    → AreRests x (insert c n rest)
rests_more x c n rest rests has =
    Each-insert (HasRest x) c n rest rests
    (origin x c n has.0 rest (get c n) refl rests (sym (get_patched x c n) ∙ has.1) has.2)

-- what many changes of different names give, in any order
lookup_here : (c : ℕ × Option Entry) (cs : List (ℕ × Option Entry))
    → lookup (nat_eq c.0) (c ∷ cs) ≡ Some c.1
lookup_here c cs = ap (λ b. cond b (Some c.1) (lookup (nat_eq c.0) cs)) (eq-eqb c.0 c.0 refl)

lookup_past : (c : ℕ × Option Entry) (cs : List (ℕ × Option Entry)) (q : ℕ)
    → (q ≡ c.0 → ⊥)
    → lookup (nat_eq q) (c ∷ cs) ≡ lookup (nat_eq q) cs
lookup_past c cs q other =
    ap (λ b. cond b (Some c.1) (lookup (nat_eq q) cs)) (ne_eqb q c.0 other)

get_each : (cs : List (ℕ × Option Entry)) (x : Space) (q : ℕ)
    → IsDistinct nat_eq (keys_of cs)
    → get (patched_by cs x) q ≡ over (lookup (nat_eq q) cs) (get x q)
unfolding IsDistinct
get_each [] x q once = refl
get_each (c ∷ cs) x q once =
    get_each cs (put_entry x c.0 c.1) q once.1
    ∙ elim (cases_eq q c.0) [
      | inl same ↦
          ap (λ k. over (lookup (nat_eq k) cs) (get (put_entry x c.0 c.1) k)) same
          ∙ ap (λ o. over o (get (put_entry x c.0 c.1) c.0)) (fresh c.0 cs once.0)
          ∙ put_entry_same x c.0 c.1 ∙ sym (ap (λ o. over o (get x q)) (lookup_here c cs))
          ∙ ap (λ k. over (lookup (nat_eq k) (c ∷ cs)) (get x q)) (sym same)
      | inr other ↦
          ap (over (lookup (nat_eq q) cs)) (put_entry_other x c.0 q c.1 other)
          ∙ sym (ap (λ o. over o (get x q)) (lookup_past c cs q other))
    ]

pub patched_is : (x : Space) (c : Map (Option Entry)) (cs : List (ℕ × Option Entry))
    → AreEntries cs c
    → patched_by cs x ≡ patched x c
patched_is x c cs are = same_map _ _ (λ q.
    get_each cs x q are.once
    ∙ ap (λ o. over o (get x q)) (gathered_get q cs ∙ ap (λ m. get m q) are.shown)
    ∙ sym (get_patched x c q))

-- each entry of a list of changes has a name of which this may be left, one after the other
abbrev pub CanPatch : List (ℕ × Option Entry) → Space → Type 0
CanPatch [] x = ⊤
CanPatch (c ∷ cs) x = HasRest x c.0 c.1 × CanPatch cs (put_entry x c.0 c.1)

-- they can be made one after the other
can_each : (cs : List (ℕ × Option Entry)) (x : Space)
    → IsDistinct nat_eq (keys_of cs)
    → ((n : ℕ) (rest : Option Entry) → lookup (nat_eq n) cs ≡ Some rest → HasRest x n rest)
    → CanPatch cs x
unfolding IsDistinct
can_each [] x once each = tt
can_each (c ∷ cs) x once each = (
  each c.0 c.1 (lookup_here c cs),
  can_each cs (put_entry x c.0 c.1) once.1 (λ n rest at.
      let apart : n ≡ c.0 → ⊥ = λ s. not_None rest
      (sym at ∙ ap (λ k. lookup (nat_eq k) cs) s ∙ fresh c.0 cs once.0) in
      let old = each n rest (lookup_past c cs n apart ∙ at) in
      (old.0, put_entry_other x c.0 n c.1 apart ∙ old.1, old.2)),
)

pub can_patch : (x : Space) (c : Map (Option Entry)) (cs : List (ℕ × Option Entry))
    → AreRests x c
    → AreEntries cs c
    → CanPatch cs x
can_patch x c cs rests are =
    can_each cs x are.once (λ n rest at.
    rests n rest (ap (λ m. get m n) (sym are.shown) ∙ sym (gathered_get n cs) ∙ at))

pub patch_end : (cs : List (ℕ × Option Entry)) (x z : Space)
    → cs ≡ []
    → patched_by cs x ≡ z
    → x ≡ z
patch_end cs x z none was = sym (ap (λ l. patched_by l x) none) ∙ was

-- what is left can be put there
pub can_leave : (x : Space) (n : ℕ) (rest : Option Entry) → HasRest x n rest → CanPut x n rest
can_leave x n None has = tt
can_leave x n (Some f) has = has

pub fits : (x : Space) (n : ℕ) (rest : Option Entry) (e : Entry)
    → rest ≡ Some e
    → CanPut x n rest
    → HasRest x n (Some e)
fits x n rest e is can = subst (CanPut x n) is can

pub has_name : (x : Space) (n : ℕ) (rest : Option Entry) → HasRest x n rest → IsSome (get x n)
has_name x n rest has = subst IsSome (sym has.1) refl
