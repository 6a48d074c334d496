use Rattle.std.proofs.Common.{◌∙◌}
use Rattle.mrc_map.proofs.EntryLaws.{view_list}
use Rattle.mrc_map.proofs.map.Map.entries.Goals as goal

pub returns : goal.returns
returns g c = c.deref.ensures.value ∙ view_list _ _ c.self.invariant c.self.view_is
