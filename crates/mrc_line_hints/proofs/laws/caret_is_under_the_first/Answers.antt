-- Proved of the definitions.
use Rattle.mrc_line_hints.proofs.Longest.{caret_is_under_the_first}
use Rattle.mrc_line_hints.proofs.laws.caret_is_under_the_first.Goals as goal

pub returns : goal.returns
returns c = caret_is_under_the_first
