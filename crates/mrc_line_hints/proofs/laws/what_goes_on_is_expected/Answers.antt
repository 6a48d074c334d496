-- Proved of the definitions.
use Rattle.mrc_line_hints.proofs.Longest.{what_goes_on_is_expected}
use Rattle.mrc_line_hints.proofs.laws.what_goes_on_is_expected.Goals as goal

pub returns : goal.returns
returns c = what_goes_on_is_expected
