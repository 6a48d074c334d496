-- Believe. What the slots of the forms that a class accepts can carry. This profile's own choice.
use Rattle.std.specs.Prelude.{ℕ, ◌==◌, ◌&&◌, Bool, false, Option, Some, None}
use Rattle.std.specs.List.{list_any}
use Rattle.mrc_base.specs.declared.Disp.{Disp}
use Rattle.mrc_base.specs.Disposition.{disp_number}
use Rattle.mrc_model.specs.Wiring.{Wiring, Shape, Form}
use Rattle.mrc_model.specs.Wiring.{form_shapes, forms, admits, type_numbers}

-- the items of the argument may have this type number
abbrev pub is_type_of : Shape → ℕ → Bool
is_type_of shape n = list_any (λ m. m == n) (type_numbers shape.types)

-- the argument is a slot of this disposition, whose type admits the class
abbrev pub shape_takes : Wiring → Disp → ℕ → Shape → Bool
shape_takes W x c shape = is_type_of shape (disp_number x) && admits W shape.sort c

-- an argument of the form is such a slot
abbrev pub form_takes : Wiring → Disp → ℕ → Form → Bool
form_takes W x c form = list_any (shape_takes W x c) (form_shapes form)

-- there is a form, and it has such a slot
abbrev pub is_taker : Wiring → Disp → ℕ → Option Form → Bool
is_taker W x c None = false
is_taker W x c (Some form) = form_takes W x c form

-- a form that class d accepts has such a slot
unfoldable pub takes : Wiring → ℕ → Disp → ℕ → Bool
takes W d x c = list_any (form_takes W x c) (forms W d)
