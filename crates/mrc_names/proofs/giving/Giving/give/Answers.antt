use Rattle.std.proofs.Common.{sym, ap, ◌∙◌, subst}
use Rattle.mrc_index.specs.Undo.{CanUndo, undone}
use Rattle.mrc_index.proofs.UndoLaws.{give_can, give_back}
use Rattle.mrc_names.specs.Giving.{Giving}
use Rattle.mrc_names.proofs.giving.Giving.give.Goals as goal

pub invariant_of-self-in-Ok : goal.invariant_of-self-in-Ok
invariant_of-self-in-Ok c =
    subst (λ l. CanUndo l c.give.new.self) (sym c.in-Ok.ensures.items)
    (give_can c.self.inside.trail.items c.in_ok-given.given c.self.inside.space c.give.new.self
    c.self.invariant c.in_ok-given.ensures.back c.in_ok-given.ensures.ready)

pub returns-in-Ok-clause-base : goal.returns-in-Ok-clause-base
returns-in-Ok-clause-base c =
    ap (λ l. undone l c.give.new.self) c.in-Ok.ensures.items
    ∙ give_back c.self.inside.trail.items c.in_ok-given.given c.self.inside.space c.give.new.self _
    (ap (λ (g : Giving). g.base) c.self.view_is) c.in_ok-given.ensures.back
