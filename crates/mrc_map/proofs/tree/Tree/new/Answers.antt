use Rattle.mrc_map.proofs.EntryLaws.{rising_empty, map_empty}
use Rattle.mrc_map.proofs.tree.Tree.new.Goals as goal

pub invariant_of-result : goal.invariant_of-result
invariant_of-result g c = rising_empty _ c.new.ensures.empty

pub returns : goal.returns
returns g c = map_empty _ c.new.ensures.empty
