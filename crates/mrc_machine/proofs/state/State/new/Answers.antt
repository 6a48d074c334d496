use Rattle.mrc_machine.proofs.HousingLaws.{housed_empty}
use Rattle.mrc_machine.proofs.state.State.new.Goals as goal

pub invariant_of-result : goal.invariant_of-result
invariant_of-result c = housed_empty _ _ c.new-2.ensures c.new-3.ensures
