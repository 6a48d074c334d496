use Rattle.std.proofs.Common.{◌-◌, length, suc}
use Rattle.mrc_rows.specs.Rows.{SameBits}
use Rattle.mrc_rows.proofs.row_facts.make_row.Given as goal

-- empty rows show nothing
abbrev pub invariant-loop-rows : goal.invariant-loop-rows
invariant-loop-rows l = SameBits l.fn.rows.items l.rows.items

abbrev pub decreases-loop-rows : goal.decreases-loop-rows
decreases-loop-rows l = suc l.row - length l.rows.items
