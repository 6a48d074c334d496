use Rattle.mrc_live.proofs.Noting.{none_noted}
use Rattle.mrc_live.proofs.office.Office.new.Goals as goal

-- src/office.rt:109:5
pub invariant_of-result : goal.invariant_of-result
invariant_of-result g c = none_noted c.args.desk 256
