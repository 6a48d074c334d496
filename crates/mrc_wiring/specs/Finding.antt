-- Believe. The forms of a label's items by their ids, and the types of their arguments. This
-- profile's own choice.
use Rattle.std.specs.Prelude.{ℕ, ◌==◌, Bool, false, List, [], drop, find, map, slice_get, Option}
use Rattle.std.specs.Prelude.{Some, None, option_and_then, unwrap_or}
use Rattle.mrc_model.specs.CallSend.{first_sort}
use Rattle.mrc_model.specs.declared.LabelItem.{LabelItem}
use Rattle.mrc_model.specs.declared.LabelItem.TheVariants as items
use Rattle.mrc_model.specs.Wiring.{Wiring, Shape, Form, OfRequest, OfReply}
use Rattle.mrc_model.specs.Wiring.{form_id, interface, item_forms, label, brings_reply}
use Rattle.mrc_model.specs.Wiring.{is_routine_of}
use Rattle.mrc_forms.specs.Tables.{Table as Interface}
use Rattle.mrc_forms.specs.declared.form.MessageKind.{MessageKind}
use Rattle.mrc_forms.specs.declared.form.MessageKind.TheVariants as messages
use Rattle.mrc_forms.specs.declared.form.FormKind.{FormKind}
use Rattle.mrc_forms.specs.declared.form.FormKind.TheVariants.{Request, Reply}
use Rattle.mrc_wiring.specs.Sorts.{sorts_of}
use Rattle.mrc_wiring.specs.ModelForms.{typed_from}

-- a form of this kind
abbrev pub form_by : FormKind → ℕ → List Shape → Form
form_by (Request kind) id shapes = OfRequest record { id = id; kind = kind; shapes = shapes }
form_by Reply id shapes = OfReply record { id = id; shapes = shapes }

-- the item of this message of the subsystem of this number
abbrev pub item_of : MessageKind → ℕ → LabelItem
item_of messages.Request s = items.Request s
item_of messages.Reply s = items.Reply s

-- the form has this id
abbrev pub has_id : ℕ → Form → Bool
has_id id form = form_id form == id

-- the forms of this message of the interface of this number
abbrev pub message_forms : MessageKind → Wiring → ℕ → List Form
message_forms messages.Request W s = map OfRequest (interface W s).requests
message_forms messages.Reply W s = map OfReply (interface W s).replies

-- the form of this message at each id of the interface of this number
abbrev pub typed_at : MessageKind → List Interface → ℕ → List (Option Form)
typed_at kind interfaces s =
    unwrap_or (slice_get (typed_from kind (sorts_of interfaces) 0 interfaces) s) []

-- the form at a place of these, if there is one
abbrev pub placed : List (Option Form) → ℕ → Option Form
placed forms place = option_and_then (λ o. o) (slice_get forms place)

-- the form is that of a request which may bring a reply right
abbrev pub is_of_routine : Form → Bool
is_of_routine (OfRequest form) = brings_reply form
is_of_routine (OfReply form) = false

-- there is a form, and it is that of a request which may bring a reply right
abbrev pub is_there_of_routine : Option Form → Bool
is_there_of_routine None = false
is_there_of_routine (Some form) = is_of_routine form

-- the form is that of a request with this id which may bring a reply right
abbrev pub is_of_id : ℕ → Form → Bool
is_of_id id (OfRequest form) = is_routine_of id form
is_of_id id (OfReply form) = false

-- there is a form, and it is that of a request with this id which may bring a reply right
abbrev pub is_there_of_id : ℕ → Option Form → Bool
is_there_of_id id None = false
is_there_of_id id (Some form) = is_of_id id form

-- the first form that has the id, of those that the item at this place of the class's label
-- stands for
abbrev pub form_at : Wiring → ℕ → ℕ → ℕ → Option Form
form_at W class place id =
    option_and_then (λ item. find (has_id id) (item_forms W item)) (slice_get (label W class) place)

-- the type of the argument of this number, as sending a message reads it
abbrev pub sort_at : List Shape → ℕ → ℕ
sort_at shapes i = first_sort (drop i shapes)
