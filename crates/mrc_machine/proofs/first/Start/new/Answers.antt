use Rattle.mrc_machine.proofs.StartLaws.{start_none}
use Rattle.mrc_machine.proofs.first.Start.new.Goals as goal

pub invariant_of-result : goal.invariant_of-result
invariant_of-result c = start_none c.in_ok-state.state c.in_ok-state.ensures
