use Rattle.std.specs.Map.Calls.{CalledAtPair, RetainsPairs}
use Rattle.mrc_map.proofs.TreeLaws.{ordered_rises, tree_retained}
use Rattle.mrc_map.proofs.tree.Tree.retain.Goals as goal

pub invariant_of-self : goal.invariant_of-self
invariant_of-self g c = ordered_rises _ c.retain.ensures.ordered

pub returns : goal.returns
returns g c =
    tree_retained (RetainsPairs (CalledAtPair g.F.FnMut) c.args.change) _ _ _ c.self.invariant
    c.self.view_is (ordered_rises _ c.retain.ensures.ordered) c.retain.ensures.filtered
