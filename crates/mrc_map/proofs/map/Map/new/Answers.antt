use Rattle.mrc_map.proofs.EntryLaws.{rising_empty, map_empty}
use Rattle.mrc_map.proofs.map.Map.new.Goals as goal

pub invariant_of-result : goal.invariant_of-result
invariant_of-result g c = rising_empty _ c.new.ensures.items

pub returns : goal.returns
returns g c = map_empty _ c.new.ensures.items
