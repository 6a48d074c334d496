use Rattle.std.proofs.Common.{◌∙◌}
use Rattle.mrc_map.proofs.TreeLaws.{tree_get}
use Rattle.mrc_map.proofs.tree.Tree.get.Goals as goal

pub returns : goal.returns
returns g c =
    c.get.ensures.value
    ∙ tree_get c.args.key c.self.inside.entries.entries c.args.self.now c.self.invariant
    c.self.view_is
