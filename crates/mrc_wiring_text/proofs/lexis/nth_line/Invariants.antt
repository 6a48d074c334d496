-- The line is still among the others.
use Rattle.std.proofs.Common.{◌≡◌, get_or, [], length}
use Rattle.mrc_wiring_text.specs.Lexis.{lines}
use Rattle.mrc_wiring_text.proofs.lexis.nth_line.Given as goal

abbrev pub invariant-loop-rest : goal.invariant-loop-rest
invariant-loop-rest l = get_or (lines l.rest) l.left [] ≡ get_or (lines l.text) l.above []

abbrev pub decreases-loop-rest : goal.decreases-loop-rest
decreases-loop-rest l = length l.rest
