-- Proved of the definitions.
use Rattle.mrc_wiring_text.proofs.LineLaws.{each_policy_line_is_spelled}
use Rattle.mrc_wiring_text.proofs.laws.each_policy_line_is_spelled.Goals as goal

pub returns : goal.returns
returns c = each_policy_line_is_spelled
