-- The call is among those that are left.
use Rattle.std.proofs.Common.{◌≡◌, length}
use Rattle.mrc_report.specs.Table.{call_among}
use Rattle.mrc_report.proofs.table.call_among.Given as goal

abbrev pub invariant-loop-rest : goal.invariant-loop-rest
invariant-loop-rest l = call_among l.rest l.word ≡ call_among l.all l.word

abbrev pub decreases-loop-rest : goal.decreases-loop-rest
decreases-loop-rest l = length l.rest
