use Rattle.std.proofs.Common.{◌≡◌, ℕ, [], map}
use Rattle.std.specs.List.{range_with_len}
use Rattle.mrc_mig_forms.specs.Files.{forms_at}
use Rattle.mrc_mig_forms.proofs.table.no_rows.Given as goal

abbrev pub invariant-loop : goal.invariant-loop
invariant-loop l =
    (base : ℕ) → l.rows.items ≡ map (λ id. forms_at id []) (range_with_len base l.counter)
