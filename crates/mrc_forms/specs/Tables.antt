-- Believe. The forms of a subsystem by their ids. The forms of a subsystem's messages by their ids,
-- after the Server Writer's Guide for MIG.
use Rattle.std.specs.Prelude.{◌≡◌, ℕ, ◌+◌, ◌-◌, List, Option, Some, None, option_and_then}
use Rattle.std.specs.Prelude.{nat_le, slice_get, bytes_eq, find, if◌then◌else◌}
use Rattle.std.specs.List.{filter_map}
use Rattle.mrc_forms.specs.declared.form.FormKind.{FormKind}
use Rattle.mrc_forms.specs.declared.form.FormKind.TheVariants as kinds
use Rattle.mrc_forms.specs.declared.form.MessageKind.{MessageKind}
use Rattle.mrc_forms.specs.declared.form.MessageKind.TheVariants.{Request, Reply}
use Rattle.mrc_forms.specs.Forms.{Form}

-- what stands at an id: a skip has neither form, a simpleroutine has no reply
pub record Row : Type 0 where
  pub request : Option Form
  pub reply : Option Form

-- The forms of a subsystem. Row i is that of the id base + i.
pub record Table : Type 0 where
  pub name : List ℕ
  pub base : ℕ
  pub rows : List Row

-- the form of this message of a row
abbrev pub form_in : MessageKind → Row → Option Form
form_in Request row = row.request
form_in Reply row = row.reply

-- the id that this message of the first row has. A reply's id is 100 above that of its request
abbrev pub first_id : MessageKind → Table → ℕ
first_id Request table = table.base
first_id Reply table = table.base + 100

-- the place of the row whose message has this id, where there is one
abbrev pub place_of : MessageKind → Table → ℕ → Option ℕ
place_of kind table id =
    if nat_le (first_id kind table) id then Some (id - first_id kind table) else None

-- the form of this message of the row of this place
abbrev pub form_at : MessageKind → Table → ℕ → Option Form
form_at kind table place = option_and_then (form_in kind) (slice_get table.rows place)

-- the form of this message that has this id
abbrev pub form_of : MessageKind → Table → ℕ → Option Form
form_of kind table id = option_and_then (form_at kind table) (place_of kind table id)

-- the forms of this message, in the order of their ids
abbrev pub forms_by : MessageKind → Table → List Form
forms_by kind table = filter_map (form_in kind) table.rows

-- the form of this message of the routine of this name
abbrev pub form_named : MessageKind → Table → List ℕ → Option Form
form_named kind table name = find (λ (form : Form). bytes_eq name form.name) (forms_by kind table)

-- which message a form is of
abbrev pub message_of : FormKind → MessageKind
message_of (kinds.Request kind) = Request
message_of kinds.Reply = Reply

-- each form is of the message for which it stands in its row, and has the id of its place
abbrev pub AreForms : Table → Type 0
AreForms table =
    (kind : MessageKind) (place : ℕ) (form : Form)
    → form_at kind table place ≡ Some form
    → (message_of form.kind ≡ kind) × (form.id ≡ first_id kind table + place)
