-- Proved of the definitions.
use Rattle.mrc_line_hints.proofs.Closings.{policy_beginnings_are_found}
use Rattle.mrc_line_hints.proofs.laws.policy_beginnings_are_found.Goals as goal

pub returns : goal.returns
returns c = policy_beginnings_are_found
