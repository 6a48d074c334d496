-- Step. The table of a file, row by row of the text.
use Rattle.std.specs.Prelude.{ℕ, ◌-◌, List, slice_set, if◌then◌else◌}
use Rattle.mrc_forms.specs.Tables.{Row}
use Rattle.mrc_mig_rows.specs.Rows.{RowSays}
use Rattle.mrc_mig_forms.specs.Files.{is_read, forms_of_row}

-- what stands at the ids from this one on, with the forms of a row at its id, if it is read
abbrev pub put : ℕ → List Row → RowSays → List Row
put base rows row =
    if is_read row.outcome then slice_set rows (row.id - base) (forms_of_row row) else rows
