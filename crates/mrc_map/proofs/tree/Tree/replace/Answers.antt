use Rattle.std.proofs.Common.{◌∙◌, sym}
use Rattle.mrc_map.proofs.TreeLaws.{tree_insert, tree_get}
use Rattle.mrc_map.proofs.EntryLaws.{not_some}
use Rattle.mrc_map.proofs.tree.Tree.replace.Goals as goal

pub unreachable-requires : goal.unreachable-requires
unreachable-requires g c =
    not_some _ (sym (tree_get c.args.key c.self.inside.entries.entries _ c.self.invariant
    c.self.view_is)
    ∙ sym c.in-Ok.ensures.old ∙ c.in-None.is) c.requires

pub unreachable-requires-in-Err : goal.unreachable-requires-in-Err
unreachable-requires-in-Err g c =
    not_some _ (sym (tree_get c.args.key c.self.inside.entries.entries _ c.self.invariant
    c.self.view_is)
    ∙ c.in-Err.ensures.absent) c.requires

pub invariant_of-self : goal.invariant_of-self
invariant_of-self g c =
    (tree_insert c.args.key c.args.value _ _ _ c.self.invariant c.self.view_is
    c.in-Ok.ensures.entries).0

pub returns-clause-out : goal.returns-clause-out
returns-clause-out g c =
    sym c.in-Some.is ∙ c.in-Ok.ensures.old
    ∙ tree_get c.args.key c.self.inside.entries.entries _ c.self.invariant c.self.view_is

pub returns-clause-changed : goal.returns-clause-changed
returns-clause-changed g c =
    (tree_insert c.args.key c.args.value _ _ _ c.self.invariant c.self.view_is
    c.in-Ok.ensures.entries).1
