-- Believe. The births of tasks by their kinds, as rows by ascending task and kind. This profile's
-- own choice.
use Rattle.std.specs.Prelude.{ℕ, ◌<◌, ◌&&◌, ◌||◌, ◌==◌, Bool, nat_lt}
use Rattle.std.specs.Prelude.{IsTrue}
use Rattle.std.specs.Prelude.{List, [], ◌∷◌, ⊤, Some, None, is_some, unwrap_or}
use Rattle.std.specs.Prelude.{if◌then◌else◌}
use Rattle.std.specs.List.{list_any, AllByRecursion}
use Rattle.mrc_base.specs.Limits.{limit_of_kinds}
use Rattle.mrc_model.specs.declared.LabelItem.{LabelItem}
use Rattle.mrc_wiring.specs.declared.births.BirthRow.{BirthRow}

-- the row is that of task t and this kind
abbrev pub is_row : ℕ → ℕ → BirthRow → Bool
is_row t kind row = row.task == t && row.kind == kind

-- the row comes before that of task t and this kind
abbrev pub comes_before : ℕ → ℕ → BirthRow → Bool
comes_before t kind row = nat_lt row.task t || (row.task == t && nat_lt row.kind kind)

-- the row is that of task t and this kind, and a line says what they accept
abbrev pub is_said : ℕ → ℕ → BirthRow → Bool
is_said t kind row = is_row t kind row && is_some row.accepts

-- there is a row of task t and this kind
abbrev pub has_row : List BirthRow → ℕ → ℕ → Bool
has_row rows t kind = list_any (is_row t kind) rows

-- a line says what the births of task t and this kind accept
abbrev pub has_said : List BirthRow → ℕ → ℕ → Bool
has_said rows t kind = list_any (is_said t kind) rows

-- the births of task t of this kind, of which no line says what they accept
abbrev pub new_row : ℕ → ℕ → BirthRow
new_row t kind = record { task = t; kind = kind; accepts = None }

-- the same if a line says it
abbrev pub said_row : ℕ → ℕ → List LabelItem → BirthRow
said_row t kind label = record { task = t; kind = kind; accepts = Some label }

-- the rows with what the births of task t and this kind accept: in their row, or in a new one at
-- its place
unfoldable pub put_row : List BirthRow → ℕ → ℕ → List LabelItem → List BirthRow
put_row [] t kind label = said_row t kind label ∷ []
put_row (row ∷ rows) t kind label =
    if comes_before t kind row then row ∷ put_row rows t kind label
    else if is_row t kind row then said_row t kind label ∷ rows
    else said_row t kind label ∷ row ∷ rows

-- what births accept: nothing if no line says it
abbrev pub of_row : BirthRow → List LabelItem
of_row row = unwrap_or row.accepts []

-- the task and the kind of a row
abbrev pub pair_of : BirthRow → ℕ × ℕ
pair_of row = (row.task, row.kind)

-- each row comes before all behind it
abbrev pub AreAscending : List BirthRow → Type 0
AreAscending [] = ⊤
AreAscending (row ∷ rows) =
    AllByRecursion (λ (later : BirthRow). IsTrue (comes_before later.task later.kind row)) rows
    × AreAscending rows

-- the rows of so many tasks: ascending, each of one of them, and one of kind 0 for each task
pub record AreBirths (tasks : ℕ) (rows : List BirthRow) : Type 0 where
  pub ascending : AreAscending rows
  pub each : AllByRecursion (λ (row : BirthRow). row.task < tasks) rows
  pub zeroth : (t : ℕ) → t < tasks → IsTrue (has_row rows t 0)

-- each row is of a kind that there may be
abbrev pub AreKinds : List BirthRow → Type 0
AreKinds rows = AllByRecursion (λ (row : BirthRow). row.kind < limit_of_kinds) rows
