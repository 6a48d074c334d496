use Rattle.std.proofs.Common.{ℕ, ◌≤◌, subst, ap, map}
use Rattle.std.proofs.lemmas.List.{length-map}
use Rattle.mrc_base.specs.Limits.{limit_of_first_edition_ids}
use Rattle.mrc_mig_parse.specs.Meanings.{row_of}
use Rattle.mrc_mig_parse.proofs.FitLemmas.{all_fits}
use Rattle.mrc_mig_parse.proofs.file.whole_file.Goals as goal

pub invariant_of-result : goal.invariant_of-result
invariant_of-result c =
    let fits = all_fits _ _ _ _ _ _ c.new.ensures
    (ap (λ entries. map row_of entries) c.new-2.ensures.items) c.in_ok-rest.ensures.exact
    c.in_ok-statements.ensures.exact in (
      subst (λ (n : ℕ). n ≤ limit_of_first_edition_ids)
          (length-map c.statements.new.file.entries.items row_of) fits.few,
      fits.rows,
    )
