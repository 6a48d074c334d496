use Rattle.std.proofs.Common.{◌∙◌}
use Rattle.mrc_map.proofs.EntryLaws.{view_list}
use Rattle.mrc_map.proofs.tree.Tree.iter.Goals as goal

pub returns : goal.returns
returns g c =
    c.iter.ensures.rest
    ∙ view_list c.self.inside.entries.entries c.args.self.now c.self.invariant c.self.view_is
