use Rattle.std.proofs.Common.{◌≡◌, length}
use Rattle.mrc_mig_symbols.specs.Directives.{without_blanks}
use Rattle.mrc_mig_symbols.proofs.directive.without_blanks.Given as goal

abbrev pub invariant-loop-rest : goal.invariant-loop-rest
invariant-loop-rest l = without_blanks l.rest ≡ without_blanks l.fn.line

abbrev pub decreases-loop-rest : goal.decreases-loop-rest
decreases-loop-rest l = length l.rest
