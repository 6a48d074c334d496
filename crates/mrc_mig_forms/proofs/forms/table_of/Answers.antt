use Rattle.std.proofs.Common.{◌∙◌, ◌≡◌, All, map, ap, sym, subst, List, arith}
use Rattle.std.specs.List.{range_with_len}
use Rattle.mrc_mig_rows.specs.declared.rows.Row.{Row}
use Rattle.mrc_mig_rows.specs.Readers.{file_of}
use Rattle.mrc_mig_rows.specs.Rows.{row_of}
use Rattle.mrc_mig_forms.specs.Bounds.{RowFits}
use Rattle.mrc_mig_forms.specs.Files.{forms_at}
use Rattle.mrc_mig_forms.proofs.FileLemmas.{file_holds}
use Rattle.mrc_mig_forms.proofs.LawLemmas.{formed}
use Rattle.mrc_mig_forms.proofs.TableLemmas.{all_fit, so_many}
use Rattle.mrc_mig_forms.proofs.forms.table_of.Goals as goal

pub rows_of-requires : goal.rows_of-requires
rows_of-requires c =
    let file = file_of c.args.file.now in
    subst (λ (rows : List Row). All (RowFits file.heading.base file.ids) (map row_of rows))
    (sym c.as_slice.ensures.value) (all_fit file (file_holds file c.requires))

pub new-requires-clause-few : goal.new-requires-clause-few
new-requires-clause-few c =
    let file = file_of c.args.file.now in
    let few = (file_holds file c.requires).few in
    let many = so_many (λ id. forms_at id (map row_of c.as_slice.result.now))
    file.heading.base file.ids c.in_ok-rows.rows.items c.in_ok-rows.ensures in
    omega (arith, few, many)

pub new-requires-clause-formed : goal.new-requires-clause-formed
new-requires-clause-formed c =
    let file = file_of c.args.file.now in
    let made : c.in_ok-rows.rows.items
    ≡ map (λ id. forms_at id (map row_of c.as_slice.result.now))
    (range_with_len file.heading.base file.ids) = c.in_ok-rows.ensures in
    formed file _ c.in_ok-rows.rows.items c.in_ok-name.ensures.ok
    (made ∙ ap (λ (rows : List Row). map (λ id. forms_at id (map row_of rows))
    (range_with_len file.heading.base file.ids)) c.as_slice.ensures.value)
