-- Proved of the definitions.
use Rattle.mrc_wide_policy.proofs.QuoteLemmas.{plain_lines}
use Rattle.mrc_wide_policy.proofs.laws.plain_lines_have_their_words.Goals as goal

pub returns : goal.returns
returns c = plain_lines
