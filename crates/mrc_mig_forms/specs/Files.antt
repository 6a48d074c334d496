-- Believe. The forms of a file of edition 2 by their ids, the rows that are left out, and the types
-- that are not read. A reply's id is 100 above that of its request, by the Server Writer's Guide
-- for MIG; of rows that are left out the file has no forms.
use Rattle.std.specs.Prelude.{◌≡◌, ℕ, ◌+◌, List, [], Bool, true, false, ◌&&◌, ◌==◌, Option, Some}
use Rattle.std.specs.Prelude.{None, Result, Ok, map, if◌then◌else◌}
use Rattle.std.specs.List.{fold, filter_map, range_with_len}
use Rattle.mrc_base.specs.Reading.{◌>>=◌}
use Rattle.mrc_mig_symbols.specs.declared.fault.Stop.{Stop}
use Rattle.mrc_model.specs.declared.RequestKind.{RequestKind}
use Rattle.mrc_model.specs.declared.RequestKind.TheVariants as kinds
use Rattle.mrc_forms.specs.declared.form.FormKind.TheVariants.{Request, Reply}
use Rattle.mrc_forms.specs.Forms.{Form}
use Rattle.mrc_forms.specs.Tables.{Row, Table}
use Rattle.mrc_mig_bodies.specs.declared.kinds.Request.{Request as Answered}
use Rattle.mrc_mig_bodies.specs.declared.kinds.Request.TheVariants as answers
use Rattle.mrc_mig_bodies.specs.Bodies.{Item}
use Rattle.mrc_mig_tokens.specs.Tokens.{Token}
use Rattle.mrc_mig_rows.specs.declared.words.RowWord.{RowWord}
use Rattle.mrc_mig_rows.specs.Carried.{Carrier}
use Rattle.mrc_mig_rows.specs.Declarations.{Unread}
use Rattle.mrc_mig_rows.specs.Files.{FileSays, file_at}
use Rattle.mrc_mig_rows.specs.Rows.{RowSays, Outcome, IsRead, IsLeftOut}
use Rattle.mrc_mig_forms.specs.Bodies.{form_of}

-- what answers a request, as forms have it
abbrev pub kind_of : Answered → RequestKind
kind_of answers.Routine = kinds.Routine
kind_of answers.Simple = kinds.Simple
kind_of answers.Replied = kinds.Replied

-- the name of a row that is read, which has one
abbrev pub name_of : Option (List ℕ) → List ℕ
name_of None = []
name_of (Some name) = name

-- the form of a reply, if the request has one of its own
abbrev pub reply_of : Answered → List ℕ → ℕ → List Item → Option Form
reply_of answers.Routine name id items = Some (form_of name (id + 100) Reply items)
reply_of answers.Simple name id items = None
reply_of answers.Replied name id items = None

-- nothing stands at an id
abbrev pub no_forms : Row
no_forms = record { request = None; reply = None }

-- the forms of a row by what becomes of it; one that is left out has none
abbrev pub forms_by : List ℕ → ℕ → Outcome → Row
forms_by name id (IsRead answered request reply) = record {
  request = Some (form_of name id (Request (kind_of answered)) request);
  reply = reply_of answered name id reply;
}
forms_by name id (IsLeftOut told carried) = no_forms

-- the same
abbrev pub forms_of_row : RowSays → Row
forms_of_row row = forms_by (name_of row.name) row.id row.outcome

-- a row is read
abbrev pub is_read : Outcome → Bool
is_read (IsRead answered request reply) = true
is_read (IsLeftOut told carried) = false

-- the row takes this id, and is read
abbrev pub takes : ℕ → RowSays → Bool
takes id row = (row.id == id) && is_read row.outcome

-- what stands at an id: the forms of the row that takes it and is read, of which there is one at
-- most (were there several, the last would count)
abbrev pub forms_at : ℕ → List RowSays → Row
forms_at id rows =
    fold (λ found row. if takes id row then forms_of_row row else found) no_forms rows

-- the table of a file
abbrev pub table_of : FileSays → Table
table_of file = record {
  name = file.heading.name;
  base = file.heading.base;
  rows = map (λ id. forms_at id file.rows) (range_with_len file.heading.base file.ids);
}

-- a row that is left out: its name if it has one, its id, the place of its first word, the word for
-- which it is left out and where that is told, and what it may carry; a place is how many tokens
-- are left there
pub record LeftOut : Type 0 where
  pub routine : Option (List ℕ)
  pub id : ℕ
  pub at : ℕ
  pub word : RowWord
  pub stop : ℕ
  pub carried : List Carrier

-- a row, if it is left out
abbrev pub left_by : RowSays → Outcome → Option LeftOut
left_by row (IsRead answered request reply) = None
left_by row (IsLeftOut told carried) = Some (record {
  routine = row.name;
  id = row.id;
  at = row.at;
  word = told.word;
  stop = told.at;
  carried = carried;
})

abbrev pub left_of : RowSays → Option LeftOut
left_of row = left_by row row.outcome

-- those that are left out, in the order of the text
abbrev pub left_out_of : FileSays → List LeftOut
left_out_of file = filter_map left_of file.rows

-- the forms of a file, the rows that are left out, and the types that are not read
pub record FormsSay : Type 0 where
  pub table : Table
  pub left_out : List LeftOut
  pub unread : List Unread

abbrev pub forms_of : FileSays → FormsSay
forms_of file = record {
  table = table_of file;
  left_out = left_out_of file;
  unread = file.unread;
}

-- tokens say this
abbrev pub IsSaid : FileSays → Type 0
IsSaid file = (received : Bool) × (tokens : List Token) × (file_at received tokens ≡ Ok file)

-- the forms of tokens, or the first fault of the file
abbrev pub forms_in : Bool → List Token → Result FormsSay Stop
forms_in received tokens = file_at received tokens >>= λ file. Ok (forms_of file)
