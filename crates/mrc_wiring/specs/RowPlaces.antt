-- Step. The place of the row of a task's births of a kind among ascending rows, where rows are
-- found by halves. This profile's own choice.
use Rattle.std.specs.Prelude.{ℕ, Bool, false, not, List, Option, Some, None, slice_get}
use Rattle.std.specs.List.{position_or_len}
use Rattle.mrc_wiring.specs.declared.births.BirthRow.{BirthRow}
use Rattle.mrc_wiring.specs.Births.{is_row, comes_before, is_said}

-- how many rows come before that of task t and this kind
abbrev pub place_of : List BirthRow → ℕ → ℕ → ℕ
place_of rows t kind = position_or_len (λ row. not (comes_before t kind row)) rows

-- it is there, and is the row of task t and this kind
abbrev pub is_there : ℕ → ℕ → Option BirthRow → Bool
is_there t kind None = false
is_there t kind (Some row) = is_row t kind row

-- the row of task t and this kind is at the place
abbrev pub stands_at : List BirthRow → ℕ → ℕ → ℕ → Bool
stands_at rows at t kind = is_there t kind (slice_get rows at)

-- it is there, is the row of task t and this kind, and a line says what they accept
abbrev pub is_said_there : ℕ → ℕ → Option BirthRow → Bool
is_said_there t kind None = false
is_said_there t kind (Some row) = is_said t kind row

-- the row of task t and this kind is at the place, and a line says what they accept
abbrev pub said_at : List BirthRow → ℕ → ℕ → ℕ → Bool
said_at rows at t kind = is_said_there t kind (slice_get rows at)
