-- Believe. The form of a message of a routine of edition 2. A reply begins with the return code,
-- and a count is an argument whose name has `Cnt` behind that of its array, as in GNU MIG's stubs.
use Rattle.std.specs.Prelude.{ℕ, ◌+◌, ◌++◌, Bool, true, false, not, List, [], ◌∷◌, length, map}
use Rattle.std.specs.Prelude.{codes, if◌then◌else◌}
use Rattle.std.specs.List.{filter}
use Rattle.mrc_forms.specs.declared.form.FormKind.{FormKind}
use Rattle.mrc_forms.specs.Forms.{Argument, Slot, Form, in_front, slot_by, with_argument}
use Rattle.mrc_mig_bodies.specs.Bodies.{Item, Argument as Plain, CountOf, ReturnCode, form_of_item}
use Rattle.mrc_mig_forms.specs.Shapes.{items_of}

-- an item is the return code, which stands in front of a reply's others
abbrev pub is_code : Item → Bool
is_code (Plain name type_name meant) = false
is_code (CountOf name) = false
is_code ReturnCode = true

-- the items of a body behind what stands in front
abbrev pub body : List Item → List Item
body items = filter (λ item. not (is_code item)) items

-- the name of an item
abbrev pub name_of : Item → List ℕ
name_of (Plain name type_name meant) = name
name_of (CountOf name) = name ++ codes "Cnt"
name_of ReturnCode = codes "RetCode"

-- the name of its type, if it has one: that of an argument
abbrev pub type_name_of : Item → List ℕ
type_name_of (Plain name type_name meant) = type_name
type_name_of (CountOf name) = []
type_name_of ReturnCode = []

-- what the body shows of an item
abbrev pub argument_of : Item → Argument
argument_of item = record { name = name_of item; items = items_of (form_of_item item) }

-- this item, where it carries port rights, which has this number
abbrev pub slot_of_item : ℕ → Item → List Slot
slot_of_item i item = slot_by i (type_name_of item) (items_of (form_of_item item)).types

-- those of these items that carry port rights, where the first has the number i
abbrev pub slots_from : ℕ → List Item → List Slot
slots_from i [] = []
slots_from i (item ∷ items) = slot_of_item i item ++ slots_from (i + 1) items

-- the form of such a message of a routine of this name, with these items
abbrev pub form_of : List ℕ → ℕ → FormKind → List Item → Form
form_of name id kind items = record {
  name = name;
  id = id;
  kind = kind;
  arguments = in_front kind ++ map argument_of (body items);
  slots = slots_from (length (in_front kind)) (body items);
}

-- a form with one item more, if that does not stand in front
abbrev pub with_item : Form → Item → Form
with_item form item =
    if is_code item then form
    else with_argument form (name_of item) (items_of (form_of_item item)) (type_name_of item)
