-- The last entry of a map has the key before the next one.
use Rattle.std.proofs.Common.{◌≡◌, ℕ, suc, ◌+◌, ◌-◌, ◌≤◌, List, [], ◌∷◌, length, Some, None}
use Rattle.std.proofs.Common.{refl, sym, ◌∙◌, ap, arith, nat_lt, false}
use Rattle.std.proofs.lemmas.Option.{slice_get-get_or}
use Rattle.std.proofs.lemmas.Bool.{le-ltb}
use Rattle.std.specs.List.{slice_get}
use Rattle.mrc_model.specs.Map.{Map, key_after, next_key}
use Rattle.mrc_model.proofs.Maps.{same_Some, not_None}
use Rattle.mrc_map.specs.Entries.{below}

after_last : {X : Type 0} (k : ℕ) (es : List (ℕ × X)) (e : ℕ × X)
    → slice_get es (length es - 1) ≡ Some e
    → key_after k es ≡ e.0 + 1
after_last k [] e is = absurd (not_None e (sym is))
after_last k (f ∷ []) e is = ap (λ (g : ℕ × _). g.0 + 1) (same_Some f e is)
after_last {X} k (f ∷ g ∷ es) e is =
    let n : length (f ∷ g ∷ es) - 1 ≡ suc (length (g ∷ es) - 1) = omega arith in
    after_last (f.0 + 1) (g ∷ es) e (sym (ap (slice_get (f ∷ g ∷ es)) n) ∙ is)

none_last : {X : Type 0} (k : ℕ) (es : List (ℕ × X))
    → slice_get es (length es - 1) ≡ None
    → key_after k es ≡ k
none_last k [] is = refl
none_last k (f ∷ es) is =
    let some = slice_get-get_or (f ∷ es) (length (f ∷ es) - 1) f (omega arith) in
    absurd (not_None _ (sym some ∙ is))

module _ {X : Type 0} (limit : ℕ) (m : Map X) (es : List (ℕ × X)) (same : es ≡ m.list) where
  -- where there is no entry
  pub none_below : slice_get es (length es - 1) ≡ None → below limit 0 ≡ below limit (next_key m)
  unfolding next_key
  none_below none =
      ap (below limit) (sym (ap (key_after 0) (sym same) ∙ none_last 0 es none))

  -- where there is
  next_is : (e : ℕ × X) → slice_get es (length es - 1) ≡ Some e → next_key m ≡ e.0 + 1
  unfolding next_key
  next_is e last = ap (key_after 0) (sym same) ∙ after_last 0 es e last

  pub last_below : (e : ℕ × X) → slice_get es (length es - 1) ≡ Some e
      → below limit (e.0 + 1) ≡ below limit (next_key m)
  last_below e last = ap (below limit) (sym (next_is e last))

  -- and it is at the limit
  pub last_above : (e : ℕ × X) → slice_get es (length es - 1) ≡ Some e → limit ≤ e.0
      → None ≡ below limit (next_key m)
  last_above e last high =
      let above : nat_lt (next_key m) limit ≡ false =
      le-ltb (next_key m) limit (omega (arith, next_is e last)) in
      rw above refl
