use Rattle.std.proofs.Common.{◌≡◌, length}
use Rattle.mrc_mig_forms.specs.Marks.{behind_digits}
use Rattle.mrc_mig_forms.proofs.marks.behind_digits.Given as goal

abbrev pub invariant-loop-rest : goal.invariant-loop-rest
invariant-loop-rest l = behind_digits l.rest ≡ behind_digits l.fn.line

abbrev pub decreases-loop-rest : goal.decreases-loop-rest
decreases-loop-rest l = length l.rest
