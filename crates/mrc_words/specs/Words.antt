-- Believe. Rights, classes, tasks and facts as they are printed. This profile's own choice.
use Rattle.std.specs.Prelude.{ℕ, ◌==◌, List, [], ◌++◌, Option, Some, None, codes, decimal}
use Rattle.std.specs.Prelude.{slice_get, if◌then◌else◌}
use Rattle.mrc_base.specs.declared.PortRight.{PortRight}
use Rattle.mrc_base.specs.declared.PortRight.TheVariants.{Send, Receive, SendOnce}
use Rattle.mrc_base.specs.declared.Fact.{Fact}
use Rattle.mrc_base.specs.declared.Fact.TheVariants.{Hold, Carry, Backup}
use Rattle.mrc_wiring.specs.declared.names.ClassKind.{ClassKind}
use Rattle.mrc_wiring.specs.declared.names.ClassKind.TheVariants.{Port, Task, Births}
use Rattle.mrc_wiring.specs.Names.{class_label, kind_word}
use Rattle.mrc_wiring.specs.Table.{Table}

-- one text and the next, with a blank between
infixr 10 ◌␣◌
abbrev pub ◌␣◌ : List ℕ → List ℕ → List ℕ
one ␣ next = one ++ (codes " " ++ next)

-- the word of a right
abbrev pub right_word : PortRight → List ℕ
right_word Send = codes "send"
right_word Receive = codes "receive"
right_word SendOnce = codes "once"

-- the word of a kind of births, behind the name: none for kind 0
abbrev pub behind_name : ℕ → List ℕ
behind_name kind = if kind == 0 then [] else codes ":" ++ kind_word kind

-- a class by the name of its port or task: `port:P`, `task:U`, `births:U` or `births:U:K`
abbrev pub label_word : ClassKind × List ℕ → List ℕ
label_word (Port, name) = codes "port:" ++ name
label_word (Task, name) = codes "task:" ++ name
label_word (Births kind, name) = codes "births:" ++ (name ++ behind_name kind)

-- a class by its label, or by its number where the wiring has none for it
abbrev pub class_text : ℕ → Option (ClassKind × List ℕ) → List ℕ
class_text class None = decimal class
class_text class (Some label) = label_word label

-- a class by the names of a wiring
abbrev pub class_word : Table → ℕ → List ℕ
class_word table class = class_text class (class_label table class)

-- a task by its name, or `@N`, where N is its number, if it has none
abbrev pub task_text : ℕ → Option (List ℕ) → List ℕ
task_text task None = codes "@" ++ decimal task
task_text task (Some name) = name

-- a task by its name in a wiring, or `@N` where it is not wired
abbrev pub task_word : Table → ℕ → List ℕ
task_word table task = task_text task (slice_get table.names task)

-- a fact as it is printed
abbrev pub fact_text : Table → Fact → List ℕ
fact_text table (Hold task class right) =
    codes "hold" ␣ task_word table task ␣ class_word table class ␣ right_word right
fact_text table (Carry destination class right) =
    codes "carry" ␣ class_word table destination ␣ class_word table class ␣ right_word right
fact_text table (Backup class notify) =
    codes "backup" ␣ class_word table class ␣ class_word table notify
