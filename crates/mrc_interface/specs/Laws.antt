-- Law. Which form an id finds, which arguments are slots; files are read as what they are. Which
-- form is found by an id, and which arguments are slots, in words apart from how the table is
-- searched; and that files are read as what they are. After the Server Writer's Guide for MIG.
use Rattle.std.specs.Prelude.{◌≡◌, ℕ, ◌+◌, Bool, false, List, [], ◌∷◌, Some, Ok, Err}
use Rattle.std.specs.Prelude.{slice_get, ◌↔◌}
use Rattle.std.specs.Str.{IsUtf8}
use Rattle.mrc_base.specs.declared.Disp.{Disp}
use Rattle.mrc_model.specs.IsIn.{IsIn}
use Rattle.mrc_model.specs.declared.RequestKind.TheVariants as requests
use Rattle.mrc_mig_parse.specs.Arguments.{Item}
use Rattle.mrc_mig_parse.specs.Files.{Meaning, Row as Statement, Routine, SimpleRoutine, Skip}
use Rattle.mrc_forms.specs.declared.form.FormKind.{FormKind}
use Rattle.mrc_forms.specs.declared.form.FormKind.TheVariants.{Request, Reply}
use Rattle.mrc_forms.specs.declared.form.MessageKind.{MessageKind}
use Rattle.mrc_forms.specs.Forms.{Argument, Slot, Form}
use Rattle.mrc_forms.specs.Types.{dispositions_of}
use Rattle.mrc_forms.specs.Tables.{Table, message_of, form_of as form_with_id}
use Rattle.mrc_interface.specs.Bodies.{form_of}
use Rattle.mrc_interface.specs.Subsystems.{table_of}
use Rattle.mrc_mig_tokens.specs.Editions.{edition_of}
use Rattle.mrc_mig_forms.specs.Files.{FormsSay}
use Rattle.mrc_interface.specs.Reading.{IsDefs, IsInterface, AreInterfaces, Reason, IsReason}
use Rattle.mrc_interface.specs.Reading.{Refused, IsFirstRefused, defs_of, interface_of}
use Rattle.mrc_interface.specs.Reading.{interfaces_of}
use Rattle.mrc_interface.specs.Left.{is_first_edition}
use Rattle.mrc_interface.specs.Written.{in_second}

-- the forms of a statement that takes this id
abbrev pub forms_at : ℕ → Statement → List Form
forms_at id (Routine name items) =
    form_of name id (Request requests.Routine) items ∷ form_of name (id + 100) Reply items ∷ []
forms_at id (SimpleRoutine name items) = form_of name id (Request requests.Simple) items ∷ []
forms_at id Skip = []

-- a statement of the subsystem has the form. That with i statements in front of it takes the id
-- base + i
abbrev pub HasForm : Meaning → Form → Type 0
HasForm m form =
    (i : ℕ) × (statement : Statement) × (slice_get m.rows i ≡ Some statement)
    × IsIn form (forms_at (m.base + i) statement)

-- the request that is found by its id is the one that the subsystem has, and so is the reply
abbrev pub FoundByIds : Type 0
FoundByIds =
    (m : Meaning) (table : Table) → table_of m ≡ Ok table
    → (kind : MessageKind) (id : ℕ) (form : Form)
    → (form_with_id kind table id ≡ Some form)
    ↔ (HasForm m form × (message_of form.kind ≡ kind) × (form.id ≡ id))

-- a slot of this disposition and this place is there
abbrev pub HasSlot : Form → ℕ → Disp → Type 0
HasSlot form i disposition =
    (slot : Slot) × IsIn slot form.slots × (slot.argument ≡ i)
    × IsIn disposition (dispositions_of slot.types)

-- the slots are exactly the arguments one of whose type numbers is a disposition's
abbrev pub SlotsArePorts : Type 0
SlotsArePorts =
    (name : List ℕ) (id : ℕ) (kind : FormKind) (items : List Item) (i : ℕ) (disposition : Disp)
    → HasSlot (form_of name id kind items) i disposition
    ↔ ((argument : Argument)
    × (slice_get (form_of name id kind items).arguments i ≡ Some argument)
    × IsIn disposition (dispositions_of argument.items.types))

-- reading finds exactly what bytes say
abbrev pub ReadsDefs : Type 0
ReadsDefs = (bytes : List ℕ) (said : FormsSay) → (defs_of bytes ≡ Ok said) ↔ IsDefs bytes said

-- reading finds exactly the table that bytes have
abbrev pub ReadsInterface : Type 0
ReadsInterface =
    (bytes : List ℕ) (table : Table) → (interface_of bytes ≡ Ok table) ↔ IsInterface bytes table

-- and else exactly the reason why they have none
abbrev pub ReadsReason : Type 0
ReadsReason =
    (bytes : List ℕ) (reason : Reason) → (interface_of bytes ≡ Err reason) ↔ IsReason bytes reason

-- reading finds exactly the tables of the files, in their order
abbrev pub ReadsInterfaces : Type 0
ReadsInterfaces =
    (files : List (List ℕ)) (tables : List Table)
    → (interfaces_of files ≡ Ok tables) ↔ AreInterfaces files tables

-- and else exactly the first that has none, with its reason
abbrev pub ReadsFirstRefused : Type 0
ReadsFirstRefused =
    (files : List (List ℕ)) (refused : Refused)
    → (interfaces_of files ≡ Err refused) ↔ IsFirstRefused files refused

-- a text is of edition 2
abbrev pub IsSecondEdition : List ℕ → Type 0
IsSecondEdition text = is_first_edition (edition_of text) ≡ false

-- what `mig` writes of a text is of edition 2
abbrev pub WrittenIsSecond : Type 0
WrittenIsSecond =
    (received : Bool) (bytes : List ℕ) → IsUtf8 bytes → IsSecondEdition (in_second received bytes)
