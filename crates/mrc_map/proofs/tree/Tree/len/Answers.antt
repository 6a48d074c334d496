use Rattle.std.proofs.Common.{◌∙◌}
use Rattle.mrc_map.proofs.EntryLaws.{view_len}
use Rattle.mrc_map.proofs.tree.Tree.len.Goals as goal

pub returns : goal.returns
returns g c =
    c.len.ensures.len
    ∙ view_len c.self.inside.entries.entries c.args.self.now c.self.invariant c.self.view_is
