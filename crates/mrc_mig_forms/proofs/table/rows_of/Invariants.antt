use Rattle.std.proofs.Common.{◌≡◌, map, take}
use Rattle.std.specs.List.{range_with_len}
use Rattle.mrc_mig_rows.specs.Rows.{row_of}
use Rattle.mrc_mig_forms.specs.Files.{forms_at}
use Rattle.mrc_mig_forms.proofs.table.rows_of.Given as goal

abbrev pub invariant-loop-statement : goal.invariant-loop-statement
invariant-loop-statement l =
    l.rows.items ≡ map (λ id. forms_at id (map row_of (take l.statement-index l.statements)))
    (range_with_len l.base l.count)
