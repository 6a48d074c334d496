-- Believe. The table of a subsystem. The table of a subsystem, after the Server Writer's Guide for
-- MIG. That ids end with the largest number of a file is this profile's own choice.
use Rattle.std.specs.Prelude.{ℕ, ◌+◌, List, [], ◌∷◌, Some, None, Result, Ok, Err, nat_le}
use Rattle.std.specs.Prelude.{if◌then◌else◌}
use Rattle.mrc_base.specs.Limits.{limit_of_number}
use Rattle.mrc_base.specs.Reading.{◌>>=◌}
use Rattle.mrc_model.specs.declared.RequestKind.TheVariants as requests
use Rattle.mrc_mig_parse.specs.Files.{Meaning, Row as Statement, Routine, SimpleRoutine, Skip}
use Rattle.mrc_interface.specs.declared.fault.InterfaceFault.{InterfaceFault}
use Rattle.mrc_interface.specs.declared.fault.InterfaceFault.TheVariants.{IdRange}
use Rattle.mrc_forms.specs.declared.form.FormKind.TheVariants.{Request, Reply}
use Rattle.mrc_forms.specs.Tables.{Row, Table}
use Rattle.mrc_interface.specs.Bodies.{form_of}

-- the row of a statement that takes this id. A reply's id is 100 above that of its request
abbrev pub row_of : ℕ → Statement → Row
row_of id (Routine name items) = record {
  request = Some (form_of name id (Request requests.Routine) items);
  reply = Some (form_of name (id + 100) Reply items);
}
row_of id (SimpleRoutine name items) = record {
  request = Some (form_of name id (Request requests.Simple) items);
  reply = None;
}
row_of id Skip = record { request = None; reply = None }

-- the greatest id of its messages; a skip takes its own
abbrev pub last_id : ℕ → Statement → ℕ
last_id id (Routine name items) = id + 100
last_id id (SimpleRoutine name items) = id
last_id id Skip = id

-- the same, where there are such ids
abbrev pub row_at : ℕ → Statement → Result Row InterfaceFault
row_at id statement =
    if nat_le (last_id id statement) limit_of_number then Ok (row_of id statement) else Err IdRange

-- the rows of statements, of which the first takes this id
abbrev pub rows_at : ℕ → List Statement → Result (List Row) InterfaceFault
rows_at id [] = Ok []
rows_at id (statement ∷ statements) =
    row_at id statement >>= λ row. rows_at (id + 1) statements >>= λ rows. Ok (row ∷ rows)

-- the table of a subsystem
abbrev pub table_of : Meaning → Result Table InterfaceFault
table_of m =
    rows_at m.base m.rows >>= λ rows. Ok (record { name = m.name; base = m.base; rows = rows })
