use Rattle.mrc_map.proofs.TreeLaws.{tree_insert}
use Rattle.mrc_map.proofs.tree.Tree.insert.Goals as goal

pub invariant_of-self-2 : goal.invariant_of-self-2
invariant_of-self-2 g c =
    (tree_insert c.args.key c.args.value _ _ _ c.self.invariant c.self.view_is
    c.in_ok-insert.ensures.entries).0

pub returns-clause-ok : goal.returns-clause-ok
returns-clause-ok g c =
    (tree_insert c.args.key c.args.value _ _ _ c.self.invariant c.self.view_is
    c.in_ok-insert.ensures.entries).1
