use Rattle.std.proofs.Common.{◌≡◌, ◌≤◌, ℕ, subst, sym}
use Rattle.std.specs.Option.{IfNone}
use Rattle.std.specs.Prelude.{None}
use Rattle.mrc_model.specs.Map.{get}
use Rattle.mrc_map.proofs.TreeLaws.{none_from, first_from, head_fact}
use Rattle.mrc_map.proofs.tree.Tree.next.Goals as goal

pub returns-in_err-found-clause-none : goal.returns-in_err-found-clause-none
returns-in_err-found-clause-none g c =
    subst (λ o. IfNone o ((key : ℕ) → c.args.from ≤ key → get c.args.self.now key ≡ None))
    (sym c.from_residual.ensures)
    (none_from c.args.from c.self.inside.entries.entries _ c.args.self.now c.self.invariant
    c.self.view_is (c.range.ensures.in_range tt).5 c.in_err-found.ensures.steps.0)

pub returns-clause-some : goal.returns-clause-some
returns-clause-some g c =
    let h = c.range.ensures.in_range tt in
    let e : ℕ × g.row.X.Denot = (c.in_ok-found.found.0.now, c.in_ok-found.found.1.now) in
    let first = head_fact _ _ _ e c.in_ok-found.ensures.steps h.1 in
    first_from c.args.from c.self.inside.entries.entries e c.args.self.now c.self.invariant
    c.self.view_is first.0.0 first.1
    (λ q i t. head_fact _ _ _ e c.in_ok-found.ensures.steps (h.2 q i t))
