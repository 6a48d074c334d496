-- Proved of the definitions.
use Rattle.mrc_line_hints.proofs.Closings.{lines_are_accepted}
use Rattle.mrc_line_hints.proofs.laws.lines_are_accepted.Goals as goal

pub returns : goal.returns
returns c = lines_are_accepted
