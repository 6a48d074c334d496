-- Proved of the definitions.
use Rattle.mrc_line_hints.proofs.Closings.{beginnings_are_found}
use Rattle.mrc_line_hints.proofs.laws.beginnings_are_found.Goals as goal

pub returns : goal.returns
returns c = beginnings_are_found
