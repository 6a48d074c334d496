-- Proved of the definitions.
use Rattle.mrc_wide_text.proofs.WideLaws.{tasks_are_read}
use Rattle.mrc_wide_text.proofs.laws.tasks_are_read.Goals as goal

pub returns : goal.returns
returns c = tasks_are_read
