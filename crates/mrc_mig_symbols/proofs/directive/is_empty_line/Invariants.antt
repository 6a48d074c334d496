use Rattle.std.proofs.Common.{◌≡◌, length, Some}
use Rattle.mrc_mig_symbols.specs.Directives.{is_empty_from}
use Rattle.mrc_mig_symbols.specs.declared.directive.Place.TheVariants.{Outside}
use Rattle.mrc_mig_symbols.proofs.directive.is_empty_line.Given as goal

abbrev pub invariant-loop-rest : goal.invariant-loop-rest
invariant-loop-rest l = is_empty_from (Some l.place) l.rest ≡ is_empty_from (Some Outside) l.fn.line

abbrev pub decreases-loop-rest : goal.decreases-loop-rest
decreases-loop-rest l = length l.rest
