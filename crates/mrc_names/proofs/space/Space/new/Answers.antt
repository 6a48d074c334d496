use Rattle.mrc_names.proofs.BoundLaws.{bounded_empty}
use Rattle.mrc_names.proofs.space.Space.new.Goals as goal

pub invariant_of-result : goal.invariant_of-result
invariant_of-result c = bounded_empty _ c.new.ensures
