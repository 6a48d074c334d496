-- Believe. The form of a routine's message. What the bodies of a routine's messages look like,
-- after the Server Writer's Guide for MIG: a request has the arguments that go in, a reply has the
-- return code and the arguments that come out. Neither has the ports that the two messages are sent
-- to.
use Rattle.std.specs.Prelude.{ℕ, ◌+◌, ◌++◌, Bool, true, false, List, [], ◌∷◌, length, map}
use Rattle.std.specs.List.{filter}
use Rattle.mrc_mig_symbols.specs.declared.word.Direction.{Direction}
use Rattle.mrc_mig_symbols.specs.declared.word.Direction.TheVariants as directions
use Rattle.mrc_mig_parse.specs.Arguments.{Item}
use Rattle.mrc_forms.specs.declared.form.FormKind.{FormKind}
use Rattle.mrc_forms.specs.declared.form.FormKind.TheVariants.{Request, Reply}
use Rattle.mrc_forms.specs.declared.types.ItemTypes.TheVariants.{One}
use Rattle.mrc_forms.specs.Shapes.{items_of}
use Rattle.mrc_forms.specs.Forms.{Argument, Slot, Form, in_front, slot_by}

-- an argument that goes this way is in the body of such a message
abbrev pub is_in_body : FormKind → Direction → Bool
is_in_body (Request kind) directions.In = true
is_in_body (Request kind) directions.InOut = true
is_in_body Reply directions.Out = true
is_in_body Reply directions.InOut = true
is_in_body _ _ = false

-- the arguments in the body, in their order
abbrev pub body : FormKind → List Item → List Item
body kind items = filter (λ item. is_in_body kind item.direction) items

-- what the body shows of an argument
abbrev pub argument_of : Item → Argument
argument_of item = record { name = item.name; items = items_of item.shape }

-- this argument, where it carries port rights, which has this number
abbrev pub slot_of_item : ℕ → Item → List Slot
slot_of_item i item = slot_by i item.type_name (One item.shape.name)

-- those of these arguments that carry port rights, where the first has the number i
abbrev pub slots_from : ℕ → List Item → List Slot
slots_from i [] = []
slots_from i (item ∷ items) = slot_of_item i item ++ slots_from (i + 1) items

-- the form of such a message of a routine of this name, with these arguments
abbrev pub form_of : List ℕ → ℕ → FormKind → List Item → Form
form_of name id kind items = record {
  name = name;
  id = id;
  kind = kind;
  arguments = in_front kind ++ map argument_of (body kind items);
  slots = slots_from (length (in_front kind)) (body kind items);
}
