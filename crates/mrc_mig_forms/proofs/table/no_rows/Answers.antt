use Rattle.std.proofs.Common.{◌∙◌, ◌++◌, [], ◌∷◌, List, ap, sym}
use Rattle.mrc_forms.specs.Tables.{Row}
use Rattle.mrc_mig_forms.specs.Files.{no_forms}
use Rattle.mrc_mig_forms.proofs.TableLemmas.{nothing_more}
use Rattle.mrc_mig_forms.proofs.table.no_rows.Goals as goal

pub loop-preserved : goal.loop-preserved
loop-preserved c = λ base.
    c.in_ok-push.ensures.items
    ∙ (ap (λ (rows : List Row). rows ++ no_forms ∷ []) (c.loop.invariant base)
    ∙ sym (nothing_more base c.loop.counter))
