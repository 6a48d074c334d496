use Rattle.mrc_map.proofs.Changing.{changed_rises, changed_entries}
use Rattle.mrc_map.proofs.map.Map.change.Goals as goal

pub invariant_of-self : goal.invariant_of-self
invariant_of-self g c =
    changed_rises _ _ _ _ c.requires.keeps c.retain_mut.ensures.filtered c.self.invariant

pub returns : goal.returns
returns g c =
    changed_entries _ _ _ _ _ c.requires.keeps c.self.invariant c.self.view_is
    c.retain_mut.ensures.filtered
