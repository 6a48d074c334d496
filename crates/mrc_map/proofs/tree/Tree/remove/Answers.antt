use Rattle.std.proofs.Common.{◌∙◌}
use Rattle.mrc_map.proofs.TreeLaws.{tree_remove, tree_get}
use Rattle.mrc_map.proofs.tree.Tree.remove.Goals as goal

pub invariant_of-self : goal.invariant_of-self
invariant_of-self g c =
    (tree_remove c.args.key _ _ _ c.self.invariant c.self.view_is c.remove.ensures.entries).0

pub returns-clause-out : goal.returns-clause-out
returns-clause-out g c =
    c.remove.ensures.value
    ∙ tree_get c.args.key c.self.inside.entries.entries _ c.self.invariant c.self.view_is

pub returns-clause-removed : goal.returns-clause-removed
returns-clause-removed g c =
    (tree_remove c.args.key _ _ _ c.self.invariant c.self.view_is c.remove.ensures.entries).1
