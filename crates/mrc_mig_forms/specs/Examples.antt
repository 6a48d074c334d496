-- Worked. Forms and tables of routines, rows that are left out, and marks of lines, by hand.
use Rattle.std.specs.Prelude.{◌≡◌, ℕ, List, [], ◌∷◌, ◌++◌, true, false, Some, None, map}
use Rattle.std.specs.Prelude.{codes, refl, option_map}
use Rattle.mrc_model.specs.Wiring.{OneOf}
use Rattle.mrc_model.specs.declared.RequestKind.TheVariants.{Replied}
use Rattle.mrc_forms.specs.declared.form.FormKind.TheVariants as kinds
use Rattle.mrc_forms.specs.declared.form.MessageKind.TheVariants.{Request, Reply}
use Rattle.mrc_forms.specs.declared.types.ItemTypes.TheVariants as types
use Rattle.mrc_forms.specs.Forms.{Form}
use Rattle.mrc_forms.specs.Tables.{form_of as form_with_id}
use Rattle.mrc_mig_bodies.specs.declared.kinds.Request.TheVariants as answers
use Rattle.mrc_mig_bodies.specs.Bodies.{Argument, CountOf, ReturnCode}
use Rattle.mrc_mig_symbols.specs.Directives.{without_blanks, after_bytes}
use Rattle.mrc_mig_tokens.specs.declared.tokens.LineMark.{LineMark}
use Rattle.mrc_mig_types.specs.Shapes.{Form as Meant, all_numbers, sends}
use Rattle.mrc_mig_rows.specs.declared.words.RowWord.TheVariants.{OldForm}
use Rattle.mrc_mig_rows.specs.Files.{FileSays}
use Rattle.mrc_mig_rows.specs.Rows.{RowSays, Outcome, IsRead, IsLeftOut}
use Rattle.mrc_mig_rows.specs.Words.{told}
use Rattle.mrc_mig_forms.specs.Bodies.{form_of}
use Rattle.mrc_mig_forms.specs.Files.{table_of, left_out_of}
use Rattle.mrc_mig_forms.specs.Marks.{source_of}
use Rattle.mrc_mig_forms.specs.Shapes.{items_of}

-- rights of these numbers, 8,192 at most
abbrev ports : List ℕ → Meant
ports numbers = record { types = OneOf numbers; size = 32; number = 8192; is_bound = true }

-- what may be each number is Any, with its size and its count
pub each_number : items_of (ports all_numbers)
    ≡ record { types = types.Any; size = 32; number = 8192; is_bound = true }
each_number = refl

-- `routine r(..; out b : v; out c : w)`, where v is an array of send rights and w one of rights
-- that are copied
abbrev reply : Form
reply = form_of (codes "r") 105 kinds.Reply
    (ReturnCode ∷ Argument (codes "b") (codes "v") (ports sends)
    ∷ Argument (codes "c") (codes "w") (ports (19 ∷ [])) ∷ [])

-- the return code is the first argument, and the others are slots
pub reply_names : map (λ a. a.name) reply.arguments ≡ codes "RetCode" ∷ codes "b" ∷ codes "c" ∷ []
reply_names = refl

pub reply_slots : reply.slots
    ≡ record { argument = 1; types = types.Send; type_name = codes "v" }
    ∷ record { argument = 2; types = types.One 19; type_name = codes "w" } ∷ []
reply_slots = refl

-- a count has a name of its own
pub count_named :
    map (λ a. a.name)
    (form_of (codes "r") 5 (kinds.Request Replied) (CountOf (codes "x") ∷ [])).arguments
    ≡ codes "xCnt" ∷ []
count_named = refl

-- a row at this place
abbrev row : ℕ → ℕ → Outcome → RowSays
row id place outcome = record { name = Some (codes "r"); id = id; at = place; outcome = outcome }

-- a routine without arguments, an old form, `skip` and a simpleroutine with a reply port, from id 5
abbrev file : FileSays
file = record {
  heading = record { name = codes "s"; base = 5; is_kernel_server = false };
  ids = 4;
  rows =
      row 5 40 (IsRead answers.Routine [] (ReturnCode ∷ []))
      ∷ row 6 30 (IsLeftOut (told OldForm 30) [])
      ∷ row 8 20 (IsRead answers.Replied [] []) ∷ [];
  unread = [];
}

-- the reply of the routine has an id 100 above
pub routine_reply :
    option_map (λ form. form.kind) (form_with_id Reply (table_of file) 105) ≡ Some kinds.Reply
routine_reply = refl

-- at the id of the old form, and of the skip, nothing stands
pub nothing_left : form_with_id Request (table_of file) 6 ≡ None
nothing_left = refl

pub nothing_skipped : form_with_id Request (table_of file) 7 ≡ None
nothing_skipped = refl

-- the simpleroutine takes the id behind the skip, and has no reply of its own
pub replied :
    option_map (λ form. form.kind) (form_with_id Request (table_of file) 8)
    ≡ Some (kinds.Request Replied)
replied = refl

pub no_reply : form_with_id Reply (table_of file) 108 ≡ None
no_reply = refl

-- the old form is told
pub one_left : map (λ left. left.id) (left_out_of file) ≡ 6 ∷ []
one_left = refl

-- a line of a text
abbrev line : List ℕ → List ℕ
line bytes = bytes ++ 10 ∷ []

abbrev text : List ℕ
text =
    line (codes "# 7 \"x.defs\"") ++ line (codes "subsystem s 5;") ++ line (codes "type t = @;")
    ++ line (codes "#line 3") ++ codes "procedure b();"

-- its marks: from byte 0 to 12, and from 40 to 47
abbrev marks : List LineMark
marks = record { at = 0; end = 12 } ∷ record { at = 40; end = 47 } ∷ []

-- without marks the file is the text itself, from line 1
pub first_line : source_of text [] 0 ≡ record { file = None; line = 1 }
first_line = refl

-- `type` stands in line 8 of x.defs
pub type_line : source_of text marks 28 ≡ record { file = Some (codes "x.defs"); line = 8 }
unfolding without_blanks after_bytes
type_line = refl

-- behind a mark without a name the file stays
pub procedure_line : source_of text marks 48 ≡ record { file = Some (codes "x.defs"); line = 3 }
unfolding without_blanks after_bytes
procedure_line = refl
