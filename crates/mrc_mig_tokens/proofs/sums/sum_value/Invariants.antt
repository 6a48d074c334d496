use Rattle.std.proofs.Common.{◌≡◌, length}
use Rattle.mrc_mig_tokens.specs.Reading.{left}
use Rattle.mrc_mig_tokens.specs.Readers.{reading_of}
use Rattle.mrc_mig_tokens.specs.Sums.{value_from, sum_at}
use Rattle.mrc_mig_tokens.proofs.sums.sum_value.Given as goal

abbrev pub invariant-loop-reader : goal.invariant-loop-reader
invariant-loop-reader l = value_from (reading_of l.reader) (left l.rest) ≡ sum_at (left l.fn.rest)

abbrev pub decreases-loop-reader : goal.decreases-loop-reader
decreases-loop-reader l = length (left l.rest)
