use Rattle.std.proofs.Common.{[]}
use Rattle.mrc_rows.proofs.Rows.{shows_none}
use Rattle.mrc_rows.proofs.row_facts.RowFacts.new.Goals as goal

pub invariant_of-result : goal.invariant_of-result
invariant_of-result c = (([], shows_none c.new.result.items c.new.ensures.items), tt)
