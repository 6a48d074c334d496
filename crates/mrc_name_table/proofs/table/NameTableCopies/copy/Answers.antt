use Rattle.std.proofs.Common.{◌∙◌, ap, length, refl, sym, subst}
use Rattle.std.specs.List.{IsDistinct}
use Rattle.std.specs.String.{string_eq}
use Rattle.std.proofs.lemmas.Option.{slice_get_read}
use Rattle.mrc_name_table.specs.Names.{with_name}
use Rattle.mrc_name_table.proofs.Tables.{next_added, text}
use Rattle.mrc_name_table.proofs.table.NameTableCopies.copy.Goals as goal

pub loop-name-preserved : goal.loop-name-preserved
loop-name-preserved c =
    let keys = c.as_slice-name-items.result.now in
    let i = c.loop-name.name-index in
    let key = c.name-item.result in
    let distinct = subst (IsDistinct string_eq) (sym c.as_slice-name-items.ensures.keys)
    c.as_slice-name-items.ensures.unique in
    c.in_ok-add.ensures.ok
    ∙ (ap (with_name c.loop-name.copy) c.as_str.ensures.value
    ∙ (ap (λ names. with_name names (text key)) c.loop-name.invariant
    ∙ next_added keys i key distinct
    (slice_get_read keys (length keys) i key refl c.loop-name-test.true c.name-item.is)))
