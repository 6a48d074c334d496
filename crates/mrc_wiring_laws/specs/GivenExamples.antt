-- Worked. Which lines of a wiring the births and the admit lines of its table are of.
use Rattle.std.specs.Prelude.{◌≡◌, ℕ, false, List, [], ◌∷◌, Some, None, Ok, refl, codes}
use Rattle.std.proofs.Common.{inr}
use Rattle.mrc_forms.specs.declared.types.ItemTypes.TheVariants.{One}
use Rattle.mrc_forms.specs.declared.form.FormKind.TheVariants as kind
use Rattle.mrc_forms.specs.Forms.{return_code}
use Rattle.mrc_forms.specs.Tables.{Table as Interface}
use Rattle.mrc_model.specs.IsIn.{here, later}
use Rattle.mrc_model.specs.declared.LabelItem.TheVariants as label
use Rattle.mrc_model.specs.declared.FirstLine.TheVariants.{Task as TaskLine}
use Rattle.mrc_wiring_text.specs.declared.reading.Edition.TheVariants.{Second}
use Rattle.mrc_wiring_text.specs.declared.reading.Line.{Line}
use Rattle.mrc_wiring_text.specs.declared.policy.ClassName.TheVariants as class
use Rattle.mrc_wiring_text.specs.declared.items.Item.TheVariants as item
use Rattle.mrc_wiring_text.specs.declared.wiring.WiringSays.{WiringSays}
use Rattle.mrc_wiring_text.specs.declared.wiring.WiringSays.TheVariants as says
use Rattle.mrc_wiring.specs.declared.names.ClassKind.TheVariants as kinds
use Rattle.mrc_wiring.specs.declared.table.AdmitLine.{AdmitLine}
use Rattle.mrc_wiring.specs.Births.{put_row, new_row, said_row}
use Rattle.mrc_wiring.specs.Table.{Table}
use Rattle.mrc_wiring.specs.Resolving.{task_names, resolved, add_task, add_births, place_births}
use Rattle.mrc_wiring.specs.Resolving.{add_admit}
use Rattle.mrc_wiring_laws.specs.GivenLines.{admit_lines, HasRow, HasBirthsLine}
use Rattle.mrc_wiring_laws.specs.GivenLines.{AreBirthsOf, IsAdmitOf}

-- subsystem files 3000; a reply with one port argument of type file_t
abbrev files : Interface
files = record {
  name = codes "files";
  base = 3000;
  rows = record {
    request = None;
    reply = Some record {
      name = codes "open";
      id = 3100;
      kind = kind.Reply;
      arguments = return_code ∷ [];
      slots = record { argument = 0; types = One 19; type_name = codes "file_t" } ∷ [];
    };
  } ∷ [];
}

abbrev line : ℕ → WiringSays → Line WiringSays
line n what = record { number = n; says = what }

-- births a 5 accepts reply files destroyed
abbrev fifth_kind : Line WiringSays
fifth_kind = line 3 (says.Births (codes "a") 5 (item.Reply (codes "files") ∷ item.Destroyed ∷ []))

-- admit files.file_t births a 5; admit files.file_t none
abbrev admits_fifth : Line WiringSays
admits_fifth = line 5 (says.Admit (codes "files") (codes "file_t") (Some (class.Births (codes "a")
    5)))

abbrev admits_none : Line WiringSays
admits_none = line 7 (says.Admit (codes "files") (codes "file_t") None)

-- task a; births a 5 ..; task b; admit ..; births a 3 accepts; admit ..
abbrev mixed : List (Line WiringSays)
mixed =
    line 2 (says.Task (codes "a"))
    ∷ fifth_kind
    ∷ line 4 (says.Task (codes "b"))
    ∷ admits_fifth
    ∷ line 6 (says.Births (codes "a") 3 [])
    ∷ admits_none ∷ []

-- the births of kind 5 of the first task, and none
abbrev fifth : AdmitLine
fifth = record { sort = 0; class = Some record { kind = kinds.Births 5; number = 0 } }

abbrev none : AdmitLine
none = record { sort = 0; class = None }

-- rows of kind 0 of each task, and of kinds 3 and 5 of the first
abbrev table : Table
table = record {
  names = codes "a" ∷ codes "b" ∷ [];
  births = new_row 0 0
      ∷ said_row 0 3 []
      ∷ said_row 0 5 (label.Reply 0 ∷ label.Destroyed ∷ [])
      ∷ new_row 1 0 ∷ [];
  ports = [];
  accepts = [];
  lines = TaskLine ∷ TaskLine ∷ [];
  admits = fifth ∷ none ∷ [];
  trusts = [];
  fits = false;
  interfaces = files ∷ [];
}

pub lines_mean_it : resolved Second (files ∷ []) mixed ≡ Ok table
unfolding add_task add_births place_births put_row add_admit
lines_mean_it = refl

pub tasks_are_named : task_names mixed ≡ codes "a" ∷ codes "b" ∷ []
tasks_are_named = refl

pub two_lines_admit : admit_lines mixed ≡ admits_fifth ∷ admits_none ∷ []
two_lines_admit = refl

-- what a line says of kind 5, and its row
pub fifth_kind_is_said :
    HasBirthsLine table mixed 0 5 (label.Reply 0 ∷ label.Destroyed ∷ [])
fifth_kind_is_said = record {
  line = fifth_kind;
  task = codes "a";
  items = item.Reply (codes "files") ∷ item.Destroyed ∷ [];
  among = later here;
  says = refl;
  numbered = refl;
  means = refl;
}

pub fifth_kind_has_a_row : HasRow table.births 0 5
fifth_kind_has_a_row =
    (said_row 0 5 (label.Reply 0 ∷ label.Destroyed ∷ []), later (later here), refl, refl)

-- kind 0 of the second task has a row of no line
pub kind_0_has_a_row : HasRow table.births 1 0
kind_0_has_a_row = (new_row 1 0, later (later (later here)), refl, refl)

-- a table without that row is not of these lines
pub row_is_needed : AreBirthsOf (record table { births = [] }) mixed → ⊥
row_is_needed are =
    let said : HasBirthsLine (record table { births = [] }) mixed 0 5
    (label.Reply 0 ∷ label.Destroyed ∷ []) = record {
      line = fifth_kind;
      task = codes "a";
      items = item.Reply (codes "files") ∷ item.Destroyed ∷ [];
      among = later here;
      says = refl;
      numbered = refl;
      means = refl;
    } in
    let row = (are.there 0 5).1 (inr (label.Reply 0 ∷ label.Destroyed ∷ [], said)) in
    elim row.1 [ ]

-- the two admit lines
pub fifth_is_admitted : IsAdmitOf table admits_fifth fifth
fifth_is_admitted = record {
  subsystem = codes "files";
  type_name = codes "file_t";
  class = Some (class.Births (codes "a") 5);
  interface = 0;
  says = refl;
  interface_is = refl;
  sort_is = refl;
  class_is = (record { kind = kinds.Births 5; number = 0 }, refl, refl);
}

pub none_is_admitted : IsAdmitOf table admits_none none
none_is_admitted = record {
  subsystem = codes "files";
  type_name = codes "file_t";
  class = None;
  interface = 0;
  says = refl;
  interface_is = refl;
  sort_is = refl;
  class_is = refl;
}
