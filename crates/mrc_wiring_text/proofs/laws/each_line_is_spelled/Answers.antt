-- Proved of the definitions.
use Rattle.mrc_wiring_text.proofs.LineLaws.{each_line_is_spelled}
use Rattle.mrc_wiring_text.proofs.laws.each_line_is_spelled.Goals as goal

pub returns : goal.returns
returns c = each_line_is_spelled
