-- Believe. The table that the lines of a wiring mean, and the model's wiring of it. This profile's
-- own choice.
use Rattle.std.specs.Prelude.{◌≡◌, ℕ, ◌+◌, ◌<◌, ◌≤◌, ◌++◌, Bool, false, List, [], ◌∷◌, length}
use Rattle.std.specs.Prelude.{map, nat_lt, if◌then◌else◌, Option, Some, None, option_and_then}
use Rattle.std.specs.Option.{option_map}
use Rattle.mrc_base.specs.declared.PortRight.{PortRight}
use Rattle.mrc_base.specs.Limits.{limit_of_tasks, limit_of_wired_ports, limit_of_names}
use Rattle.mrc_model.specs.declared.LabelItem.{LabelItem}
use Rattle.mrc_model.specs.declared.FirstLine.{FirstLine}
use Rattle.mrc_model.specs.declared.FirstLine.TheVariants.{Task as TaskLine, Port as PortLine}
use Rattle.mrc_model.specs.declared.FirstLine.TheVariants.{Hold as HoldLine}
use Rattle.mrc_model.specs.Rights.{is_receive}
use Rattle.mrc_model.specs.Wiring.{Wiring, TrustLine, births_from}
use Rattle.mrc_model.specs.FirstHoldings.{first_names}
use Rattle.mrc_forms.specs.Tables.{Table as Interface}
use Rattle.mrc_wiring.specs.declared.names.ClassKind.{ClassKind}
use Rattle.mrc_wiring.specs.declared.names.ClassKind.TheVariants as kinds
use Rattle.mrc_wiring.specs.declared.names.NumberedClass.{NumberedClass}
use Rattle.mrc_wiring.specs.declared.table.AdmitLine.{AdmitLine}
use Rattle.mrc_wiring.specs.declared.table.NumberedRight.{NumberedRight}
use Rattle.mrc_wiring.specs.declared.table.TrustedLine.{TrustedLine}
use Rattle.mrc_wiring.specs.declared.births.BirthRow.{BirthRow}
use Rattle.mrc_wiring.specs.Births.{AreBirths, pair_of, of_row}
use Rattle.mrc_wiring.specs.Sorts.{sorts_of}
use Rattle.mrc_wiring.specs.ModelForms.{interfaces_from}

-- The tasks' names in the order of their lines; the births of each task by their kinds, and what
-- they accept, if a line says it; the wired ports' names in the order of their lines, and what each
-- accepts; what makes the first state, line by line; the admit lines; the lines about trusted
-- tasks; that reply ports have to fit, if a line says it; and the interfaces.
pub record Table : Type 0 where
  pub names : List (List ℕ)
  pub births : List BirthRow
  pub ports : List (List ℕ)
  pub accepts : List (List LabelItem)
  pub lines : List FirstLine
  pub admits : List AdmitLine
  pub trusts : List TrustedLine
  pub fits : Bool
  pub interfaces : List Interface

-- the class of a wired port, of a kernel port or of births, by its number: wired ports come first,
-- then kernel ports, then births
abbrev pub kind_class : ℕ → ℕ → List BirthRow → ClassKind → ℕ → Option ℕ
kind_class ports tasks births kinds.Port n = Some n
kind_class ports tasks births kinds.Task n = Some (ports + n)
kind_class ports tasks births (kinds.Births kind) n =
    births_from (ports + tasks) n kind (map pair_of births)

-- the same if ports, tasks and births are those of the table
abbrev pub class_of : Table → NumberedClass → Option ℕ
class_of table class =
    kind_class (length table.ports) (length table.names) table.births class.kind class.number

-- an admit line: the number of its type, and its class, or none
abbrev pub admitted_by : ℕ → ℕ → List BirthRow → AdmitLine → ℕ × Option ℕ
admitted_by ports tasks births line = (
  line.sort,
  option_and_then (λ (class : NumberedClass). kind_class ports tasks births class.kind
      class.number) line.class,
)

-- all of them
abbrev pub admitted_of : ℕ → ℕ → List BirthRow → List AdmitLine → List (ℕ × Option ℕ)
admitted_of ports tasks births lines = map (admitted_by ports tasks births) lines

-- a class of so many; what is no class is named by no line
abbrev pub class_within : ℕ → Option ℕ → Option ℕ
class_within n None = None
class_within n (Some c) = if nat_lt c n then Some c else None

-- the right on a class that a line about a trusted task names
abbrev pub right_by : ℕ → ℕ → List BirthRow → NumberedRight → Option (PortRight × ℕ)
right_by ports tasks births on =
    option_map (λ (c : ℕ). (on.right, c)) (class_within (ports + tasks + length births)
    (kind_class ports tasks births on.class.kind on.class.number))

-- a line about a trusted task: its verb, the number of the task, and the right on a class, or none
abbrev pub trusted_by : ℕ → ℕ → List BirthRow → TrustedLine → TrustLine
trusted_by ports tasks births line = record {
  verb = line.verb;
  task = line.task;
  right = option_and_then (right_by ports tasks births) line.right;
}

-- all of them
abbrev pub trusted_of : ℕ → ℕ → List BirthRow → List TrustedLine → List TrustLine
trusted_of ports tasks births lines = map (trusted_by ports tasks births) lines

-- what a kernel port accepts: nothing
abbrev pub of_kernel : List ℕ → List LabelItem
of_kernel name = []

-- what each class accepts, in the order of the classes
abbrev pub labels_of : Table → List (List LabelItem)
labels_of table = table.accepts ++ (map of_kernel table.names ++ map of_row table.births)

-- the model's wiring of a table
abbrev pub wiring_of : Table → Wiring
wiring_of table = record {
  lines = table.lines;
  tasks = length table.names;
  ports = length table.ports;
  births = map pair_of table.births;
  interfaces = interfaces_from (sorts_of table.interfaces) 0 table.interfaces;
  labels = labels_of table;
  admitted = admitted_of (length table.ports) (length table.names) table.births table.admits;
  trusted = trusted_of (length table.ports) (length table.names) table.births table.trusts;
  replies_fit = table.fits;
}

-- how many task lines there are
abbrev pub task_lines : List FirstLine → ℕ
task_lines [] = 0
task_lines (TaskLine ∷ lines) = task_lines lines + 1
task_lines (PortLine t ∷ lines) = task_lines lines
task_lines (HoldLine t p r ∷ lines) = task_lines lines

-- how many port lines there are
abbrev pub port_lines : List FirstLine → ℕ
port_lines [] = 0
port_lines (TaskLine ∷ lines) = port_lines lines
port_lines (PortLine t ∷ lines) = port_lines lines + 1
port_lines (HoldLine t p r ∷ lines) = port_lines lines

-- the birth numbers of the kernel ports, in the order of the tasks, where the next birth has this
-- number
abbrev pub kernel_births : ℕ → List FirstLine → List ℕ
kernel_births b [] = []
kernel_births b (TaskLine ∷ lines) = b ∷ kernel_births (b + 1) lines
kernel_births b (PortLine t ∷ lines) = kernel_births (b + 1) lines
kernel_births b (HoldLine t p r ∷ lines) = kernel_births b lines

-- the birth numbers of the wired ports, in their order, where the next birth has this number
abbrev pub port_births : ℕ → List FirstLine → List ℕ
port_births b [] = []
port_births b (TaskLine ∷ lines) = port_births (b + 1) lines
port_births b (PortLine t ∷ lines) = b ∷ port_births (b + 1) lines
port_births b (HoldLine t p r ∷ lines) = port_births b lines

-- each line is of tasks and ports of earlier lines, where so many tasks, and ports of both kinds,
-- are there before; no hold is of a receive right
abbrev pub AreEarlier : ℕ → ℕ → List FirstLine → Type 0
AreEarlier tasks births [] = Unit {0}
AreEarlier tasks births (TaskLine ∷ lines) = AreEarlier (tasks + 1) (births + 1) lines
AreEarlier tasks births (PortLine t ∷ lines) =
    (t < tasks) × AreEarlier tasks (births + 1) lines
AreEarlier tasks births (HoldLine t p r ∷ lines) =
    (t < tasks) × (p < births) × (is_receive r ≡ false) × AreEarlier tasks births lines

-- what the lines of a wiring can mean
pub record IsTable (table : Table) : Type 0 where
  pub few_tasks : length table.names ≤ limit_of_tasks
  pub few_ports : length table.ports ≤ limit_of_wired_ports
  pub births : AreBirths (length table.names) table.births
  pub accepts : length table.accepts ≡ length table.ports
  pub tasks : task_lines table.lines ≡ length table.names
  pub ports : port_lines table.lines ≡ length table.ports
  pub earlier : AreEarlier 0 0 table.lines
  pub few_names : (t : ℕ) → t < length table.names
      → first_names (wiring_of table) t ≤ limit_of_names
