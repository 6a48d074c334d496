use Rattle.mrc_ports.proofs.TableLaws.{none_sound}
use Rattle.mrc_ports.proofs.table.PortTable.new.Goals as goal

pub invariant_of-result : goal.invariant_of-result
invariant_of-result c = none_sound c.new.result c.new.ensures
