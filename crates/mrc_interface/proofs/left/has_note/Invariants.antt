-- None so far: whether one of those that are left is such a string.
use Rattle.std.proofs.Common.{◌≡◌, length}
use Rattle.mrc_mig_symbols.specs.Readers.{left}
use Rattle.mrc_interface.specs.Left.{has_note}
use Rattle.mrc_interface.proofs.left.has_note.Given as goal

abbrev pub invariant-loop-rest : goal.invariant-loop-rest
invariant-loop-rest l = has_note (left l.rest) ≡ has_note l.fn.tokens

abbrev pub decreases-loop-rest : goal.decreases-loop-rest
decreases-loop-rest l = length (left l.rest)
