-- Believe. Which lines of a policy name the births of a task without a kind, if the task has births
-- of further kinds: such a line forbids those of kind 0 alone. This profile's own choice.
use Rattle.std.specs.Prelude.{ℕ, ◌+◌, Bool, List, [], ◌∷◌, ◌++◌, bytes_eq, codes, filter, is_some}
use Rattle.std.specs.Prelude.{Option, Some, None, option_and_then, if◌then◌else◌}
use Rattle.mrc_model.specs.Wiring.{births_class}
use Rattle.mrc_wiring_text.specs.Lexis.{lines, words}
use Rattle.mrc_wiring_text.specs.Names.{name_of}
use Rattle.mrc_wiring.specs.Names.{number_of, printed_kinds}
use Rattle.mrc_wiring.specs.Table.{Table, wiring_of}

-- A line by its number, the task whose births it names, and the kinds other than 0 of that task.
pub record PlainLine : Type 0 where
  pub number : ℕ
  pub task : ℕ
  pub kinds : List ℕ

-- the wiring has births of this kind of the task
abbrev pub has_births : Table → ℕ → ℕ → Bool
has_births table task kind = is_some (births_class (wiring_of table) task kind)

-- the kinds other than 0 of the task's births, ascending
abbrev pub further_kinds : Table → ℕ → List ℕ
further_kinds table task = filter (has_births table task) printed_kinds

-- the task of a name
abbrev pub task_named : Table → List ℕ → Option ℕ
task_named table word = option_and_then (number_of table.names) (name_of word)

-- the task whose births two words name, `births U`
abbrev pub births_of : Table → (key name : List ℕ) → Option ℕ
births_of table key name =
    if bytes_eq key (codes "births") then task_named table name else None

-- the task whose births the words of a line name without a kind: `forbid T RIGHT births U`
abbrev pub plain_task : Table → List (List ℕ) → Option ℕ
plain_task table (forbid ∷ task ∷ right ∷ key ∷ name ∷ []) = births_of table key name
plain_task table words = None

-- the line of this number, with these kinds of this task, where there is one
abbrev pub plain_line : ℕ → ℕ → List ℕ → List PlainLine
plain_line number task [] = []
plain_line number task (kind ∷ kinds) =
    record { number = number; task = task; kinds = kind ∷ kinds } ∷ []

-- the same of a task that may be named
abbrev pub plain_of : Table → ℕ → Option ℕ → List PlainLine
plain_of table number None = []
plain_of table number (Some task) = plain_line number task (further_kinds table task)

-- the same of each line that names births without a kind, where the first has this number
abbrev pub plain_from : Table → ℕ → List (List ℕ) → List PlainLine
plain_from table n [] = []
plain_from table n (line ∷ rest) =
    plain_of table n (plain_task table (words line)) ++ plain_from table (n + 1) rest

-- the lines of a policy that name births without a kind, of a task that has births of further
-- kinds: each with its number, and in their order
abbrev pub plain_lines : Table → List ℕ → List PlainLine
plain_lines table policy = plain_from table 1 (lines policy)
