use Rattle.std.proofs.Common.{◌≡◌, true, subst, sym, ◌∙◌}
use Rattle.std.proofs.lemmas.List.Folds.{list_all-map}
use Rattle.std.proofs.lemmas.List.Sums.{AllPass-from_list_all}
use Rattle.mrc_mig_parse.specs.declared.subsystem.Entry.{Entry}
use Rattle.mrc_mig_parse.specs.Bounds.{row_fits}
use Rattle.mrc_mig_parse.specs.Meanings.{row_of}
use Rattle.mrc_interface.proofs.interface.rows_at.Goals as goal

-- each statement has arguments that fit
pub row_at-requires : goal.row_at-requires
row_at-requires c =
    let entries = c.args.entries.now in
    subst (λ (e : Entry). row_fits (row_of e) ≡ true) (sym c.entry-item.is)
    (AllPass-from_list_all (λ (e : Entry). row_fits (row_of e)) entries
    (sym (list_all-map row_fits row_of entries) ∙ c.requires)
    c.loop-entry.entry-index c.entry-item.result c.loop-entry-test.true)
