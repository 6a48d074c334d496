-- Law. What a table has of the `births` and `admit` lines of a wiring, in words apart from how
-- lines are read one after another. This profile's own choice.
use Rattle.std.specs.Prelude.{◌≡◌, ◌↔◌, ◌⊎◌, ◌<◌, ℕ, Bool, true, false, List, length}
use Rattle.std.specs.Prelude.{Option, Some, None, Ok, position, slice_get}
use Rattle.std.specs.List.{filter, filter_map}
use Rattle.mrc_model.specs.IsIn.{IsIn}
use Rattle.mrc_model.specs.declared.LabelItem.{LabelItem}
use Rattle.mrc_forms.specs.Tables.{Table as Interface}
use Rattle.mrc_wiring_text.specs.declared.reading.Edition.{Edition}
use Rattle.mrc_wiring_text.specs.declared.reading.Line.{Line}
use Rattle.mrc_wiring_text.specs.declared.policy.ClassName.{ClassName}
use Rattle.mrc_wiring_text.specs.declared.items.Item.{Item}
use Rattle.mrc_wiring_text.specs.declared.wiring.WiringSays.{WiringSays}
use Rattle.mrc_wiring_text.specs.declared.wiring.WiringSays.TheVariants.{Port, Births, Admit}
use Rattle.mrc_wiring.specs.declared.names.NumberedClass.{NumberedClass}
use Rattle.mrc_wiring.specs.declared.table.AdmitLine.{AdmitLine}
use Rattle.mrc_wiring.specs.declared.births.BirthRow.{BirthRow}
use Rattle.mrc_wiring.specs.Births.{AreAscending}
use Rattle.mrc_wiring.specs.Sorts.{is_sort, sorts_of}
use Rattle.mrc_wiring.specs.Table.{Table}
use Rattle.mrc_wiring.specs.Names.{number_of, class_said}
use Rattle.mrc_wiring.specs.Labels.{interface_number, label_said}
use Rattle.mrc_wiring.specs.Resolving.{task_names, resolved}

-- the name of a `port` line
abbrev pub port_named : WiringSays → Option (List ℕ)
port_named (Port name receiver accepts) = Some name
port_named other = None

-- an `admit` line
abbrev pub is_admit : WiringSays → Bool
is_admit (Admit subsystem type_name class) = true
is_admit other = false

-- the names of the `port` lines, in their order
abbrev pub port_names : List (Line WiringSays) → List (List ℕ)
port_names lines = filter_map (λ (line : Line WiringSays). port_named line.says) lines

-- the `admit` lines, in their order
abbrev pub admit_lines : List (Line WiringSays) → List (Line WiringSays)
admit_lines lines = filter (λ (line : Line WiringSays). is_admit line.says) lines

-- there is a row of task t and this kind
abbrev pub HasRow : List BirthRow → ℕ → ℕ → Type 0
HasRow rows t kind = (row : BirthRow) × IsIn row rows × (row.task ≡ t) × (row.kind ≡ kind)

-- a `births` line is of task t and this kind, and its items mean this label
pub record HasBirthsLine (table : Table) (lines : List (Line WiringSays)) (t kind : ℕ)
    (label : List LabelItem) : Type 0 where
  pub line : Line WiringSays
  pub task : List ℕ
  pub items : List Item
  pub among : IsIn line lines
  pub says : line.says ≡ Births task kind items
  pub numbered : number_of table.names task ≡ Some t
  pub means : label_said table.interfaces line.number items ≡ Ok label

-- Each `births` line is of a task and of interfaces that are there. No two of them are of one task
-- and kind. The rows are those of kind 0 of each task, and those of the task and the kind of each
-- `births` line. A row accepts what the items of its line mean, or nothing if no line is of its
-- task and kind. Rows ascend by task, and then by kind.
pub record AreBirthsOf (table : Table) (lines : List (Line WiringSays)) : Type 0 where
  pub known : (line : Line WiringSays) (task : List ℕ) (kind : ℕ) (items : List Item)
      → IsIn line lines
      → line.says ≡ Births task kind items
      → (t : ℕ) × (label : List LabelItem)
      × (number_of table.names task ≡ Some t)
      × (label_said table.interfaces line.number items ≡ Ok label)
  pub once : (i j : ℕ) (one other : Line WiringSays) (task : List ℕ) (kind : ℕ)
      (items others : List Item)
      → slice_get lines i ≡ Some one
      → slice_get lines j ≡ Some other
      → one.says ≡ Births task kind items
      → other.says ≡ Births task kind others
      → i ≡ j
  pub there : (t kind : ℕ)
      → HasRow table.births t kind
      ↔ (((t < length table.names) × (kind ≡ 0))
      ⊎ ((label : List LabelItem) × HasBirthsLine table lines t kind label))
  pub accepts : (row : BirthRow) (label : List LabelItem)
      → IsIn row table.births
      → (row.accepts ≡ Some label) ↔ HasBirthsLine table lines row.task row.kind label
  pub ascending : AreAscending table.births

-- the class that an `admit` line names, or none
abbrev pub IsClassOf : Table → Option ClassName → Option NumberedClass → Type 0
IsClassOf table None class = class ≡ None
IsClassOf table (Some name) class =
    (named : NumberedClass)
    × (class ≡ Some named)
    × (class_said table.names table.ports table.births name ≡ Some named)

-- an `admit` line by numbers: that of the type, by its subsystem and its name, and the class that
-- the line names, or none
pub record IsAdmitOf (table : Table) (line : Line WiringSays) (admit : AdmitLine) : Type 0 where
  pub subsystem : List ℕ
  pub type_name : List ℕ
  pub class : Option ClassName
  pub interface : ℕ
  pub says : line.says ≡ Admit subsystem type_name class
  pub interface_is : interface_number table.interfaces subsystem ≡ Some interface
  pub sort_is : position (is_sort interface type_name) (sorts_of table.interfaces)
      ≡ Some admit.sort
  pub class_is : IsClassOf table class admit.class

-- there is one of these for each `admit` line, in the order of the lines
pub record AreAdmitsOf (table : Table) (lines : List (Line WiringSays)) : Type 0 where
  pub many : length table.admits ≡ length (admit_lines lines)
  pub each : (i : ℕ) (line : Line WiringSays) (admit : AdmitLine)
      → slice_get (admit_lines lines) i ≡ Some line
      → slice_get table.admits i ≡ Some admit
      → IsAdmitOf table line admit

-- the table has the tasks, the wired ports, the births and the admit lines of these lines, over
-- these interfaces
pub record IsOfLines (interfaces : List Interface) (lines : List (Line WiringSays))
    (table : Table) : Type 0 where
  pub interfaces_are : table.interfaces ≡ interfaces
  pub tasks : table.names ≡ task_names lines
  pub ports : table.ports ≡ port_names lines
  pub births : AreBirthsOf table lines
  pub admits : AreAdmitsOf table lines

-- What lines mean is a table of these lines.
abbrev pub TablesAreOfLines : Type 0
TablesAreOfLines =
    (edition : Edition) (interfaces : List Interface) (lines : List (Line WiringSays))
    (table : Table)
    → resolved edition interfaces lines ≡ Ok table
    → IsOfLines interfaces lines table

-- Two tables of the same lines have the same births and the same admit lines.
abbrev pub TablesOfLinesAreOne : Type 0
TablesOfLinesAreOne =
    (interfaces : List Interface) (lines : List (Line WiringSays)) (one other : Table)
    → IsOfLines interfaces lines one
    → IsOfLines interfaces lines other
    → (one.births ≡ other.births) × (one.admits ≡ other.admits)
