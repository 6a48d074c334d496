-- Law. Which form an id finds, which arguments are slots, that each row has a form or is left out,
-- and that the words for type numbers lose none. In words apart from how the table is made.
use Rattle.std.specs.Prelude.{◌≡◌, ℕ, ◌+◌, List, [], ◌∷◌, Some, slice_get, ◌↔◌, ◌⊎◌}
use Rattle.mrc_base.specs.declared.Disp.{Disp}
use Rattle.mrc_model.specs.IsIn.{IsIn}
use Rattle.mrc_forms.specs.declared.form.FormKind.{FormKind}
use Rattle.mrc_forms.specs.declared.form.FormKind.TheVariants.{Request, Reply}
use Rattle.mrc_forms.specs.declared.form.MessageKind.{MessageKind}
use Rattle.mrc_forms.specs.declared.form.MessageKind.TheVariants as messages
use Rattle.mrc_forms.specs.Forms.{Argument, Slot, Form}
use Rattle.mrc_forms.specs.Tables.{message_of, form_of as form_with_id}
use Rattle.mrc_forms.specs.Types.{dispositions_of, types_of as numbers_of}
use Rattle.mrc_mig_bodies.specs.declared.kinds.Request.{Request as Answered}
use Rattle.mrc_mig_bodies.specs.declared.kinds.Request.TheVariants as answers
use Rattle.mrc_mig_bodies.specs.Bodies.{Item}
use Rattle.mrc_mig_rows.specs.Files.{FileSays}
use Rattle.mrc_mig_rows.specs.Rows.{RowSays, Outcome, IsRead, IsLeftOut}
use Rattle.mrc_mig_types.specs.declared.meaning.Meaning.{Meaning}
use Rattle.mrc_mig_types.specs.declared.shapes.By.{By}
use Rattle.mrc_mig_types.specs.Shapes.{shape_of}
use Rattle.mrc_mig_forms.specs.Bodies.{form_of}
use Rattle.mrc_mig_forms.specs.Files.{kind_of, name_of, table_of, LeftOut, left_out_of, IsSaid}
use Rattle.mrc_mig_forms.specs.Shapes.{items_of}

-- the replies of a row of this name that takes this id: a routine has one
abbrev pub replies_by : Answered → List ℕ → ℕ → List Item → List Form
replies_by answers.Routine name id items = form_of name (id + 100) Reply items ∷ []
replies_by answers.Simple name id items = []
replies_by answers.Replied name id items = []

-- the forms of a row, which has none where it is left out
abbrev pub messages_by : List ℕ → ℕ → Outcome → List Form
messages_by name id (IsRead answered request reply) =
    form_of name id (Request (kind_of answered)) request ∷ replies_by answered name id reply
messages_by name id (IsLeftOut told carried) = []

-- a row of the file has the form
abbrev pub HasForm : FileSays → Form → Type 0
HasForm file form =
    (row : RowSays) × IsIn row file.rows
    × IsIn form (messages_by (name_of row.name) row.id row.outcome)

-- the request that is found by its id is the one that a row of the file has, and so is the reply
abbrev pub FoundByIds : Type 0
FoundByIds =
    (file : FileSays) → IsSaid file
    → (kind : MessageKind) (id : ℕ) (form : Form)
    → (form_with_id kind (table_of file) id ≡ Some form)
    ↔ (HasForm file form × (message_of form.kind ≡ kind) × (form.id ≡ id))

-- a request is found by this id
abbrev pub HasRequest : FileSays → ℕ → Type 0
HasRequest file id =
    (form : Form) × (form_with_id messages.Request (table_of file) id ≡ Some form)

-- a row with this id is among those that are left out
abbrev pub IsLeft : FileSays → ℕ → Type 0
IsLeft file id = (left : LeftOut) × IsIn left (left_out_of file) × (left.id ≡ id)

-- of each row a request is found by its id, or it is among those that are left out, and never both
abbrev pub EachRowOnce : Type 0
EachRowOnce =
    (file : FileSays) → IsSaid file
    → (row : RowSays) → IsIn row file.rows
    → (HasRequest file row.id ⊎ IsLeft file row.id)
    × (HasRequest file row.id → IsLeft file row.id → ⊥)

-- a slot of this disposition and this place is there
abbrev pub HasSlot : Form → ℕ → Disp → Type 0
HasSlot form i disposition =
    (slot : Slot) × IsIn slot form.slots × (slot.argument ≡ i)
    × IsIn disposition (dispositions_of slot.types)

-- the slots are exactly the arguments one of whose type numbers is a disposition's
abbrev pub SlotsArePorts : Type 0
SlotsArePorts =
    (name : List ℕ) (id : ℕ) (kind : FormKind) (items : List Item) (i : ℕ) (disposition : Disp)
    → HasSlot (form_of name id kind items) i disposition
    ↔ ((argument : Argument)
    × (slice_get (form_of name id kind items).arguments i ≡ Some argument)
    × IsIn disposition (dispositions_of argument.items.types))

-- an argument of a form has the type numbers that its type means
abbrev pub NumbersAreKept : Type 0
NumbersAreKept =
    (meaning : Meaning) (judged : By)
    → numbers_of (items_of (shape_of meaning judged)).types ≡ (shape_of meaning judged).types
