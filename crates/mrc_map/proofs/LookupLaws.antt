-- What a change of entries in any order is to the map that they show.
use Rattle.std.proofs.Common.{◌≡◌, ℕ, false, List, [], ◌∷◌, length}
use Rattle.std.proofs.Common.{Some, None, refl, sym, ◌∙◌, ap, arith, cond}
use Rattle.std.proofs.Common.{inl, inr, nat_eq}
use Rattle.std.proofs.lemmas.Bool.{cases_eq, eq-eqb, ne_eqb}
use Rattle.std.specs.Map.{lookup, keys_of}
use Rattle.std.specs.List.{IsDistinct, AllByRecursion}
use Rattle.mrc_model.specs.Map.{Map, empty, get, insert, remove, len}
use Rattle.mrc_model.proofs.Maps.{get-insert, get-insert_same, get-insert_other, get-empty}
use Rattle.mrc_model.proofs.Maps.{get-remove_same, get-remove_other, len-insert, at_or_0}
use Rattle.mrc_model.proofs.Maps.{len-empty}
use Rattle.mrc_map.proofs.SameMaps.{same_map}
use Rattle.mrc_map.specs.Lookups.{gathered}

-- the value at a key
pub gathered_get : {X : Type 0} (k : ℕ) (es : List (ℕ × X))
    → lookup (nat_eq k) es ≡ get (gathered es) k
gathered_get k [] = sym (get-empty k)
gathered_get k (e ∷ es) =
    ap (cond (nat_eq k e.0) (Some e.1)) (gathered_get k es)
    ∙ sym (get-insert (gathered es) e.0 e.1 k)

-- another value at a key
pub gathered_insert : {X : Type 0} (k : ℕ) (v : X) (es fs : List (ℕ × X)) (m : Map X)
    → gathered es ≡ m
    → ((q : ℕ) → lookup (nat_eq q) fs ≡ cond (nat_eq k q) (Some v) (lookup (nat_eq q) es))
    → gathered fs ≡ insert m k v
gathered_insert k v es fs m shown h = same_map _ _ (λ q.
    sym (gathered_get q fs) ∙ h q ∙ ap (cond (nat_eq k q) (Some v)) (gathered_get q es)
    ∙ ap (λ z. cond (nat_eq k q) (Some v) (get z q)) shown
    ∙ elim (cases_eq q k) [
      | inl same ↦
          ap (λ b. cond b (Some v) (get m q)) (eq-eqb k q (sym same)) ∙ sym (get-insert_same m k v)
          ∙ ap (get (insert m k v)) (sym same)
      | inr apart ↦
          ap (λ b. cond b (Some v) (get m q)) (ne_eqb k q (λ z. apart (sym z)))
          ∙ sym (get-insert_other m k v q apart)
    ])

-- no value at a key
pub gathered_remove : {X : Type 0} (k : ℕ) (es fs : List (ℕ × X)) (m : Map X)
    → gathered es ≡ m
    → ((q : ℕ) → lookup (nat_eq q) fs ≡ cond (nat_eq k q) None (lookup (nat_eq q) es))
    → gathered fs ≡ remove m k
gathered_remove {X} k es fs m shown h = same_map _ _ (λ q.
    sym (gathered_get q fs) ∙ h q ∙ ap (cond (nat_eq k q) None) (gathered_get q es)
    ∙ ap (λ z. cond (nat_eq k q) None (get z q)) shown
    ∙ elim (cases_eq q k) [
      | inl same ↦
          ap (λ b. cond b None (get m q)) (eq-eqb k q (sym same)) ∙ sym (get-remove_same m k)
          ∙ ap (get (remove m k)) (sym same)
      | inr apart ↦
          ap (λ b. cond b None (get m q)) (ne_eqb k q (λ z. apart (sym z)))
          ∙ sym (get-remove_other m k q apart)
    ])

-- no entry is the key's
pub fresh : {X : Type 0} (k : ℕ) (es : List (ℕ × X))
    → AllByRecursion (λ q. nat_eq k q ≡ false) (keys_of es)
    → lookup (nat_eq k) es ≡ None
fresh k [] h = refl
fresh k (e ∷ es) h =
    ap (λ b. cond b (Some e.1) (lookup (nat_eq k) es)) h.0 ∙ fresh k es h.1

-- there are as many entries
pub gathered_len : {X : Type 0} (es : List (ℕ × X))
    → IsDistinct nat_eq (keys_of es)
    → len (gathered es) ≡ length es
unfolding IsDistinct
gathered_len [] d = len-empty empty refl
gathered_len (e ∷ es) d =
    let rest = gathered_len es d.1 in
    let more = len-insert (gathered es) e.0 e.1 in
    let none : at_or_0 (λ q y. 1) e.0 (get (gathered es) e.0) ≡ 0 =
    ap (at_or_0 (λ q y. 1) e.0) (sym (gathered_get e.0 es) ∙ fresh e.0 es d.0) in
    omega arith
