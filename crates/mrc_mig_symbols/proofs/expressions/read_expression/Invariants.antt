use Rattle.std.proofs.Common.{◌≡◌, length}
use Rattle.mrc_mig_symbols.specs.Readers.{left}
use Rattle.mrc_mig_symbols.specs.ExpressionStops.{placed_from, read_expression}
use Rattle.mrc_mig_symbols.specs.Readers.{reading_of}
use Rattle.mrc_mig_symbols.proofs.expressions.read_expression.Given as goal

abbrev pub invariant-loop-rest : goal.invariant-loop-rest
invariant-loop-rest l = placed_from (reading_of l.reader) (left l.rest) ≡ read_expression
    (left l.fn.rest)

abbrev pub decreases-loop-rest : goal.decreases-loop-rest
decreases-loop-rest l = length (left l.rest)
