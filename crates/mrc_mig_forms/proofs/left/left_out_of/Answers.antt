use Rattle.std.proofs.Common.{◌∙◌, ◌++◌, [], ap}
use Rattle.std.specs.List.{cons_option}
use Rattle.mrc_mig_rows.specs.declared.rows.Row.{Row}
use Rattle.mrc_mig_rows.specs.Rows.{row_of}
use Rattle.mrc_mig_forms.specs.Files.{left_of}
use Rattle.mrc_mig_forms.proofs.LawLemmas.{left_more}
use Rattle.mrc_mig_forms.proofs.left.left_out_of.Goals as goal

pub loop-row-preserved : goal.loop-row-preserved
loop-row-preserved c =
    let found = c.loop-row.found.items in
    left_more row_of c.args.rows.now c.loop-row.row-index c.row-item.result found
    c.push_left.new.found.items c.loop-row-test.true c.loop-row.invariant
    (c.in_ok-push_left.ensures
    ∙ ap (λ (row : Row). found ++ cons_option (left_of (row_of row)) []) c.row-item.is)
