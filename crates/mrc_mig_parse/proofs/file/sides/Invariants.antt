use Rattle.std.proofs.Common.{◌≡◌, length}
use Rattle.mrc_mig_symbols.specs.Readers.{left}
use Rattle.mrc_mig_parse.specs.Files.{after_sides}
use Rattle.mrc_mig_parse.proofs.file.sides.Given as goal

abbrev pub invariant-loop-rest : goal.invariant-loop-rest
invariant-loop-rest l = after_sides (left l.rest) ≡ after_sides (left l.fn.rest)

abbrev pub decreases-loop-rest : goal.decreases-loop-rest
decreases-loop-rest l = length (left l.rest)
