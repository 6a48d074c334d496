-- Believe. The forms of interfaces, in the words of the definitions. What a form looks like is
-- MIG's (Server Writer's Guide).
use Rattle.std.specs.Prelude.{ℕ, ◌+◌, ◌==◌, Bool, List, [], ◌∷◌, length, map, find, Option, Some}
use Rattle.std.specs.Prelude.{None}
use Rattle.std.specs.Option.{option_map}
use Rattle.mrc_forms.specs.declared.form.FormKind.{FormKind}
use Rattle.mrc_forms.specs.declared.form.FormKind.TheVariants as kinds
use Rattle.mrc_forms.specs.declared.form.MessageKind.{MessageKind}
use Rattle.mrc_forms.specs.declared.form.MessageKind.TheVariants.{Request, Reply}
use Rattle.mrc_forms.specs.Forms.{Argument, Slot, Form}
use Rattle.mrc_forms.specs.Tables.{Row, Table, form_in, forms_by}
use Rattle.mrc_forms.specs.Types.{types_of}
use Rattle.mrc_model.specs.declared.RequestKind.{RequestKind}
use Rattle.mrc_model.specs.declared.RequestKind.TheVariants.{Simple}
use Rattle.mrc_model.specs.Wiring.{Shape, RequestForm, ReplyForm, Interface}
use Rattle.mrc_model.specs.Wiring.{Form as ModelForm, OfRequest, OfReply}
use Rattle.mrc_wiring.specs.Sorts.{Sort, sort_number}

-- the number of the type of a slot of the interface of this number; no type's if there is none
abbrev pub slot_number : List Sort → ℕ → Option Slot → ℕ
slot_number sorts s None = length sorts
slot_number sorts s (Some slot) = sort_number sorts s slot.type_name

-- the slot is the argument of this number in the body
abbrev pub is_at : ℕ → Slot → Bool
is_at i slot = slot.argument == i

-- the argument of this number in a body that has these slots
abbrev pub shape_of : List Sort → ℕ → List Slot → ℕ → Argument → Shape
shape_of sorts s slots i argument = record {
  types = types_of argument.items.types;
  size = argument.items.size;
  number = argument.items.number;
  is_bound = argument.items.is_bound;
  sort = slot_number sorts s (find (is_at i) slots);
}

-- these arguments of a body, of which the first has this number
abbrev pub shapes_from : List Sort → ℕ → List Slot → ℕ → List Argument → List Shape
shapes_from sorts s slots i [] = []
shapes_from sorts s slots i (argument ∷ arguments) =
    shape_of sorts s slots i argument ∷ shapes_from sorts s slots (i + 1) arguments

-- the arguments of a body
abbrev pub shapes_of : List Sort → ℕ → Form → List Shape
shapes_of sorts s form = shapes_from sorts s form.slots 0 form.arguments

-- what a request wants: a form that is no request's wants no reply
abbrev pub request_kind : FormKind → RequestKind
request_kind (kinds.Request kind) = kind
request_kind kinds.Reply = Simple

-- the form as a request
abbrev pub request_of : List Sort → ℕ → Form → RequestForm
request_of sorts s form =
    record { id = form.id; kind = request_kind form.kind; shapes = shapes_of sorts s form }

-- the form as a reply
abbrev pub reply_of : List Sort → ℕ → Form → ReplyForm
reply_of sorts s form = record { id = form.id; shapes = shapes_of sorts s form }

-- the form as this message
abbrev pub model_form : MessageKind → List Sort → ℕ → Form → ModelForm
model_form Request sorts s form = OfRequest (request_of sorts s form)
model_form Reply sorts s form = OfReply (reply_of sorts s form)

-- the interface of this number
abbrev pub interface_of : List Sort → ℕ → Table → Interface
interface_of sorts s table = record {
  requests = map (request_of sorts s) (forms_by Request table);
  replies = map (reply_of sorts s) (forms_by Reply table);
}

-- interfaces of which the first has this number
abbrev pub interfaces_from : List Sort → ℕ → List Table → List Interface
interfaces_from sorts s [] = []
interfaces_from sorts s (table ∷ tables) =
    interface_of sorts s table ∷ interfaces_from sorts (s + 1) tables

-- the form of this message at each id of the interface of this number
abbrev pub typed_forms : MessageKind → List Sort → ℕ → Table → List (Option ModelForm)
typed_forms kind sorts s table =
    map (λ (row : Row). option_map (model_form kind sorts s) (form_in kind row)) table.rows

-- the same of interfaces, of which the first has this number
abbrev pub typed_from : MessageKind → List Sort → ℕ → List Table → List (List (Option ModelForm))
typed_from kind sorts s [] = []
typed_from kind sorts s (table ∷ tables) =
    typed_forms kind sorts s table ∷ typed_from kind sorts (s + 1) tables
