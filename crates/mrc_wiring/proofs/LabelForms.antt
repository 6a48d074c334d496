-- The items of a label, one after the other, and the first form of an id among theirs.
use Rattle.std.proofs.Common.{◌≡◌, ℕ, ◌+◌, ◌<◌, ◌≤◌, List, [], ◌∷◌, length, get_or, drop, Option}
use Rattle.std.proofs.Common.{zero, suc, Some, None, refl, ap, sym, ◌∙◌, arith}
use Rattle.std.specs.Prelude.{find, flat_map, option_and_then, slice_get}
use Rattle.std.specs.Option.{option_or}
use Rattle.std.proofs.lemmas.List.Folds.{find-append}
use Rattle.std.proofs.lemmas.Option.{slice_get-get_or}
use Rattle.mrc_model.specs.declared.LabelItem.{LabelItem}
use Rattle.mrc_model.specs.Wiring.{Wiring, Form, forms, item_forms, label}
use Rattle.mrc_wiring.specs.Finding.{has_id, form_at}
use Rattle.mrc_wiring.proofs.Findings.{found_here, not_here}
use Rattle.mrc_wiring.proofs.Steps.{next_is}

-- nothing is behind the last
past : {X : Type 0} (xs : List X) (i : ℕ) → length xs ≤ i → drop i xs ≡ []
past [] zero more = refl
past [] (suc i) more = refl
past (x ∷ xs) zero more = absurd (omega arith)
past (x ∷ xs) (suc i) more = past xs i (omega arith)

module _ (W : Wiring) (class id : ℕ) (items : List LabelItem) (place : ℕ) where
  -- the first form with the id of these items
  abbrev first_of : List LabelItem → Option Form
  first_of xs = find (has_id id) (flat_map (item_forms W) xs)

  is_first : items ≡ label W class → first_of items ≡ find (has_id id) (forms W class)
  unfolding forms
  is_first are = ap first_of are

  module _ (d : LabelItem) where
    -- it is that of the next item, or else that of the items behind it
    turn : place < length items
        → first_of items ≡ first_of (drop place items)
        → first_of items
        ≡ option_or (find (has_id id) (item_forms W (get_or items place d)))
        (first_of (drop (place + 1) items))
    turn less told =
        told
        ∙ ap first_of (next_is items place d less)
        ∙ find-append (has_id id) (item_forms W (get_or items place d))
        (flat_map (item_forms W) (drop (place + 1) items))

    -- the item of this place has one
    pub in_item : (form : Form) → items ≡ label W class → place < length items
        → first_of items ≡ first_of (drop place items)
        → Some form ≡ find (has_id id) (item_forms W (get_or items place d))
        → Some form ≡ find (has_id id) (forms W class)
    in_item form are less told here =
        found_here _ _ _ form (turn less told) here ∙ is_first are

    pub stands : (form : Form) → items ≡ label W class → place < length items
        → Some form ≡ find (has_id id) (item_forms W (get_or items place d))
        → form_at W class place id ≡ Some form
    stands form are less here =
        ap (λ xs. option_and_then (λ item. find (has_id id) (item_forms W item))
        (slice_get xs place)) (sym are)
        ∙ ap (option_and_then (λ item. find (has_id id) (item_forms W item)))
        (slice_get-get_or items place d less)
        ∙ sym here

    -- it has none
    pub goes_on : place < length items
        → first_of items ≡ first_of (drop place items)
        → None ≡ find (has_id id) (item_forms W (get_or items place d))
        → first_of items ≡ first_of (drop (place + 1) items)
    goes_on less told none = not_here _ _ _ (turn less told) none

  -- no item has one
  pub in_none : items ≡ label W class → length items ≤ place
      → first_of items ≡ first_of (drop place items)
      → None ≡ find (has_id id) (forms W class)
  in_none are more told =
      sym (ap first_of (past items place more)) ∙ sym told ∙ is_first are
