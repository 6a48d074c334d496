use Rattle.std.proofs.Common.{◌≡◌, length}
use Rattle.mrc_mig_symbols.specs.Directives.{without_digits}
use Rattle.mrc_mig_symbols.proofs.directive.without_digits.Given as goal

abbrev pub invariant-loop-rest : goal.invariant-loop-rest
invariant-loop-rest l = without_digits l.rest ≡ without_digits l.fn.line

abbrev pub decreases-loop-rest : goal.decreases-loop-rest
decreases-loop-rest l = length l.rest
