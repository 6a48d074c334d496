-- Step. What holds of the rows of each file: their ids are among those of the file, and their
-- bodies are not too large for forms.
use Rattle.std.specs.Prelude.{◌≡◌, ◌≤◌, ◌<◌, ℕ, ◌+◌, List, Bool, true, ◌&&◌, nat_le, length}
use Rattle.std.specs.List.{list_all}
use Rattle.mrc_base.specs.Limits.{limit_of_arguments, limit_of_number}
use Rattle.mrc_forms.specs.Shapes.{items_fit}
use Rattle.mrc_mig_bodies.specs.Bodies.{Item, form_of_item}
use Rattle.mrc_mig_rows.specs.Rows.{RowSays, Outcome, IsRead, IsLeftOut}
use Rattle.mrc_mig_types.specs.Shapes.{Form as Meant}
use Rattle.mrc_model.specs.Wiring.{type_numbers}
use Rattle.mrc_mig_forms.specs.Bodies.{body}
use Rattle.mrc_mig_forms.specs.Shapes.{items_of}

-- its type numbers are those of Mach, and its size and its count are those of a form
abbrev pub meant_fits : Meant → Bool
meant_fits meant =
    list_all (λ n. nat_le n 21) (type_numbers meant.types) && items_fit (items_of meant)

-- the same of an item
abbrev pub item_fits : Item → Bool
item_fits item = meant_fits (form_of_item item)

-- a body has 32 items at most besides a return code, and each fits
pub record BodyFits (items : List Item) : Type 0 where
  pub few : length (body items) ≤ limit_of_arguments
  pub fit : list_all item_fits items ≡ true

-- a row that is read takes one of so many ids, and its bodies fit
pub record ReadFits (base ids id : ℕ) (request reply : List Item) : Type 0 where
  pub above : base ≤ id
  pub below : id < base + ids
  pub within : id ≤ limit_of_number
  pub asks : BodyFits request
  pub replies : BodyFits reply

abbrev pub OutcomeFits : ℕ → ℕ → ℕ → Outcome → Type 0
OutcomeFits base ids id (IsRead answered request reply) = ReadFits base ids id request reply
OutcomeFits base ids id (IsLeftOut told carried) = Unit {0}

abbrev pub RowFits : ℕ → ℕ → RowSays → Type 0
RowFits base ids row = OutcomeFits base ids row.id row.outcome
