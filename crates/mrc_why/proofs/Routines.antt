-- Interfaces that have a routine.
use Rattle.std.proofs.Common.{◌≡◌, ℕ, ◌<◌, List, length, get_or, Option, Some, None, refl, subst}
use Rattle.mrc_model.specs.IsIn.{IsIn}
use Rattle.mrc_forms.specs.Forms.{Form}
use Rattle.mrc_forms.specs.Tables.{Row, Table as Interface}
use Rattle.mrc_why.specs.Sources.{HasRoutine}
use Rattle.mrc_why.specs.Slots.{IsRoutineForm}
use Rattle.mrc_why.proofs.Members.{in_read}

-- by a row of it
pub routine_row : (interface : Interface) (rows : List Row) (i : ℕ) (row : Row)
    → rows ≡ interface.rows
    → i < length rows
    → row ≡ get_or rows i row
    → IsRoutineForm row.request
    → HasRoutine interface
routine_row interface rows i row all less is routine = by row.request refl routine
  where
    by : (o : Option Form) → row.request ≡ o → IsRoutineForm o → HasRoutine interface
    by None e none = absurd none
    by (Some form) e routine = record {
      row = row;
      in_rows = subst (IsIn row) all (in_read rows i row less is);
      form = form;
      request = e;
      routine = routine;
    }
