-- Entries whose values are changed one after the other.
use Rattle.std.proofs.Common.{◌≡◌, ℕ, ◌+◌, nat_le, ◌&&◌, Bool, true, T, List, [], ◌∷◌, Some, sym}
use Rattle.std.proofs.Common.{◌∙◌, ap, subst, cond}
use Rattle.std.specs.List.Retain.{RetainsInTurn}
use Rattle.mrc_model.specs.Rising.{is_rising, alter_list, left_holds, right_holds, both_hold}
use Rattle.mrc_model.specs.Map.{Map, alter_all}
use Rattle.mrc_model.proofs.Maps.{same_list}
use Rattle.mrc_map.specs.Entries.{map_of, IsRising, KeepsKeys}
use Rattle.mrc_map.proofs.TreeLaws.{tree_retained}

module _ {F X : Type 0} (R : F → ℕ × X → Bool → F → ℕ × X → Type 0) (f : F) where
  rises_from : (low : ℕ) (es fs : List (ℕ × X))
      → KeepsKeys R f
      → RetainsInTurn R f es fs
      → T (is_rising low es)
      → T (is_rising low fs)
  rises_from low [] fs keeps is r = subst (λ xs. T (is_rising low xs)) (sym is) r
  rises_from low (e ∷ es) fs keeps (b, g, d, called, zs, more, is) r =
      let one = keeps e d b g called in
      let rest : T (is_rising (e.0 + 1) zs) =
      rises_from (e.0 + 1) es zs keeps (subst (λ s. RetainsInTurn R s es zs) one.2 more)
      (right_holds _ _ r) in
      subst (λ xs. T (is_rising low xs)) (sym (is ∙ ap (λ c. cond c (d ∷ zs) zs) one.0))
      (subst (λ k. T (nat_le low k && is_rising (k + 1) zs)) (sym one.1)
      (both_hold _ _ (left_holds _ _ r) rest))

  -- the keys still rise
  pub changed_rises : (es fs : List (ℕ × X))
      → KeepsKeys R f
      → RetainsInTurn R f es fs
      → IsRising es
      → IsRising fs
  unfolding IsRising
  changed_rises es fs keeps is r = rises_from 0 es fs keeps is r

  -- what is changed of a list is changed of its map
  pub changed_entries : (es fs : List (ℕ × X)) (m : Map X)
      → KeepsKeys R f
      → IsRising es
      → map_of es ≡ m
      → RetainsInTurn R f es fs
      → RetainsInTurn R f m.list (map_of fs).list
  changed_entries es fs m keeps r view is =
      tree_retained (RetainsInTurn R f) es fs m r view (changed_rises es fs keeps is r) is

  -- each value is changed by a function
  abbrev pub IsChanged : (X → X) → Type 0
  IsChanged h =
      (e d : ℕ × X) (b : Bool) (g : F)
      → R f e b g d
      → (b ≡ true) × (d ≡ (e.0, h e.1)) × (g ≡ f)

  changed_list : (h : X → X) (es fs : List (ℕ × X))
      → IsChanged h
      → RetainsInTurn R f es fs
      → fs ≡ alter_list (λ k x. Some (h x)) es
  changed_list h [] fs all is = is
  changed_list h (e ∷ es) fs all (b, g, d, called, zs, more, is) =
      let one = all e d b g called in
      is ∙ ap (λ c. cond c (d ∷ zs) zs) one.0 ∙ ap (λ x. x ∷ zs) one.1
      ∙ ap (λ l. (e.0, h e.1) ∷ l)
      (changed_list h es zs all (subst (λ s. RetainsInTurn R s es zs) one.2 more))

  pub changed_map : (h : X → X) (was now : Map X)
      → IsChanged h
      → RetainsInTurn R f was.list now.list
      → now ≡ alter_all (λ k x. Some (h x)) was
  unfolding alter_all
  changed_map h was now all is = same_list now _ (changed_list h was.list now.list all is)
