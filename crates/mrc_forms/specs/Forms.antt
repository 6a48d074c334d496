-- Believe. The body of a message. What the bodies of messages look like, after the Server Writer's
-- Guide for MIG: a reply begins with the return code.
use Rattle.std.specs.Prelude.{ℕ, Bool, ◌++◌, false, List, [], ◌∷◌, length, Option, Some, None}
use Rattle.std.specs.Prelude.{bytes_eq, codes, find, slice_get, if◌then◌else◌}
use Rattle.mrc_forms.specs.Shapes.{items_fit}
use Rattle.mrc_forms.specs.Types.{has_rights}
use Rattle.mrc_forms.specs.declared.shape.Items.{Items}
use Rattle.mrc_forms.specs.declared.types.ItemTypes.{ItemTypes}
use Rattle.mrc_forms.specs.declared.types.ItemTypes.TheVariants.{One}
use Rattle.mrc_forms.specs.declared.form.FormKind.{FormKind}
use Rattle.mrc_forms.specs.declared.form.FormKind.TheVariants.{Request, Reply}

-- An argument of a body: its name in the routine, and what its data look like.
pub record Argument : Type 0 where
  pub name : List ℕ
  pub items : Items

-- its data have a size that its type can have, and 1 to 8,192 items
abbrev pub argument_fits : Argument → Bool
argument_fits argument = items_fit argument.items

-- An argument that can carry port rights: its number in the body, from 0, what its items may be,
-- and the name of its type.
pub record Slot : Type 0 where
  pub argument : ℕ
  pub types : ItemTypes
  pub type_name : List ℕ

-- The body of a message: the name of its routine, its arguments, in order, and which of them carry
-- port rights.
pub record Form : Type 0 where
  pub name : List ℕ
  pub id : ℕ
  pub kind : FormKind
  pub arguments : List Argument
  pub slots : List Slot

-- the return code: one INTEGER_32
abbrev pub return_code : Argument
return_code = record {
  name = codes "RetCode";
  items = record { types = One 2; size = 32; number = 1; is_bound = false };
}

-- what stands in front of the body's arguments: in a reply the return code
abbrev pub in_front : FormKind → List Argument
in_front (Request kind) = []
in_front Reply = return_code ∷ []

-- an argument of this number, where it can carry port rights
abbrev pub slot_by : ℕ → List ℕ → ItemTypes → List Slot
slot_by i type_name types =
    if has_rights types
    then record { argument = i; types = types; type_name = type_name } ∷ []
    else []

-- a form with no arguments but those that stand in front
abbrev pub empty_form : List ℕ → ℕ → FormKind → Form
empty_form name id kind = record {
  name = name;
  id = id;
  kind = kind;
  arguments = in_front kind;
  slots = [];
}

-- one more argument behind the others
abbrev pub with_argument : Form → List ℕ → Items → List ℕ → Form
with_argument form name items type_name = record form {
  arguments = form.arguments ++ (record { name = name; items = items }) ∷ [];
  slots = form.slots ++ slot_by (length form.arguments) type_name items.types;
}

-- the argument is there, and has this name
abbrev pub has_name : List ℕ → Option Argument → Bool
has_name name None = false
has_name name (Some argument) = bytes_eq name argument.name

-- the slot that is the argument of this name
abbrev pub slot_named : Form → List ℕ → Option Slot
slot_named form name =
    find (λ (slot : Slot). has_name name (slice_get form.arguments slot.argument)) form.slots
