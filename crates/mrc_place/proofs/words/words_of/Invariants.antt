-- Each word takes some of what is left.
use Rattle.std.proofs.Common.{length}
use Rattle.mrc_place.proofs.words.words_of.Given as goal

abbrev pub decreases-loop-word : goal.decreases-loop-word
decreases-loop-word l = length l.rest
