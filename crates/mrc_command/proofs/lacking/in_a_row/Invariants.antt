use Rattle.std.proofs.Common.{length}
use Rattle.mrc_command.proofs.lacking.in_a_row.Given as goal

abbrev pub decreases-loop-rest : goal.decreases-loop-rest
decreases-loop-rest l = length l.rest
