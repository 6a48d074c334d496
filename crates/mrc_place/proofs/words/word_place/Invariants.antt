-- The end of the last word that was passed.
use Rattle.std.proofs.Common.{◌≤◌, ◌-◌, length}
use Rattle.mrc_place.proofs.words.word_place.Given as goal

abbrev pub invariant-loop-number : goal.invariant-loop-number
invariant-loop-number l = l.end ≤ length l.line

abbrev pub decreases-loop-number : goal.decreases-loop-number
decreases-loop-number l = length l.line - l.end
