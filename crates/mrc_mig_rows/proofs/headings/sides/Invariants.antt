use Rattle.std.proofs.Common.{◌≡◌, false, length}
use Rattle.mrc_mig_tokens.specs.Reading.{left}
use Rattle.mrc_mig_rows.specs.Headings.{sides_from}
use Rattle.mrc_mig_rows.proofs.headings.sides.Given as goal

abbrev pub invariant-loop-has_server : goal.invariant-loop-has_server
invariant-loop-has_server l =
    sides_from l.has_server (left l.rest) ≡ sides_from false (left l.fn.rest)

abbrev pub decreases-loop-has_server : goal.decreases-loop-has_server
decreases-loop-has_server l = length (left l.rest)
