use Rattle.std.proofs.Common.{◌≡◌, ◌≤◌, ◌+◌, ◌*◌, ◌-◌, min, drop}
use Rattle.std.specs.List.{fold}
use Rattle.mrc_base.specs.Limits.{limit_of_number}
use Rattle.mrc_mig_forms.specs.Marks.{digits_of, number_of}
use Rattle.mrc_mig_forms.proofs.marks.number_of.Given as goal

abbrev pub invariant-loop-digit : goal.invariant-loop-digit
invariant-loop-digit l =
    (min (fold (λ n b. n * 10 + (b - 48)) l.number (digits_of (drop l.digit-index l.line)))
    limit_of_number ≡ number_of l.line)
    × (l.number ≤ limit_of_number)
