use Rattle.std.proofs.Common.{◌∙◌, ℕ, ap, sym, subst, get_or}
use Rattle.mrc_mig_rows.specs.declared.rows.Row.{Row}
use Rattle.mrc_mig_rows.specs.Rows.{row_of}
use Rattle.mrc_mig_forms.specs.Bounds.{RowFits}
use Rattle.mrc_mig_forms.specs.Puts.{put}
use Rattle.mrc_mig_forms.proofs.TableLemmas.{above, fits_at, rows_more, so_many}
use Rattle.mrc_mig_forms.proofs.table.rows_of.Goals as goal

pub put-requires : goal.put-requires
put-requires c =
    let item = c.statement-item.result in
    let base = c.args.base in
    subst (λ (n : ℕ). RowFits base n (row_of item))
    (sym (so_many _ base c.args.count c.loop-statement.rows.items c.loop-statement.invariant))
    (subst (λ (row : Row). RowFits base c.args.count (row_of row)) (sym c.statement-item.is)
    (fits_at row_of c.args.statements.now c.loop-statement.statement-index item base c.args.count
    c.loop-statement-test.true c.requires))

pub loop-statement-preserved : goal.loop-statement-preserved
loop-statement-preserved c =
    let item = c.statement-item.result in
    let base = c.args.base in
    let i = c.loop-statement.statement-index in
    let statements = c.args.statements.now in
    let row = row_of (get_or statements i item) in
    rows_more row_of statements i item base c.args.count c.loop-statement.rows.items
    c.put.new.rows.items c.loop-statement-test.true
    (above base c.args.count row.id row.outcome
    (fits_at row_of statements i item base c.args.count c.loop-statement-test.true c.requires))
    c.loop-statement.invariant
    (c.in_ok-put.ensures
    ∙ ap (λ (row : Row). put base c.loop-statement.rows.items (row_of row)) c.statement-item.is)
