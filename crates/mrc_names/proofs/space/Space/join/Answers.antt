use Rattle.std.proofs.Common.{sym, ◌∙◌, subst, refl}
use Rattle.mrc_names.specs.Bounds.{IsBounded}
use Rattle.mrc_names.proofs.SpaceExits.{join_other, join_over, join_full, join_done}
use Rattle.mrc_names.proofs.BoundLaws.{bounded_old, used_at}
use Rattle.mrc_names.proofs.space.Space.join.Goals as goal

pub returns-then-not-is_entry_of-clause-refused : goal.returns-then-not-is_entry_of-clause-refused
returns-then-not-is_entry_of-clause-refused c =
    join_other c.args.self.now c.args.name c.args.port c.args.right c.args.held
    (sym c.is_entry_of.ensures ∙ c.if-not-is_entry_of.true)

pub returns-then-overflows-clause-refused : goal.returns-then-overflows-clause-refused
returns-then-overflows-clause-refused c =
    join_over c.args.self.now c.args.name c.args.port c.args.right c.args.held
    (sym c.is_entry_of.ensures ∙ c.if-not-is_entry_of.false)
    (sym c.overflows.ensures ∙ c.if-overflows.true)

pub returns-then-is_full-clause-refused : goal.returns-then-is_full-clause-refused
returns-then-is_full-clause-refused c =
    join_full c.args.self.now c.args.name c.args.port c.args.right c.args.held
    (sym c.is_entry_of.ensures ∙ c.if-not-is_entry_of.false)
    (sym c.overflows.ensures ∙ c.if-overflows.false) (sym c.is_full.ensures ∙ c.if-is_full.true)

pub returns-clause-ok : goal.returns-clause-ok
returns-clause-ok c =
    let done =
    join_done c.args.self.now c.args.name c.args.port c.args.right c.args.held
    (sym c.is_entry_of.ensures ∙ c.if-not-is_entry_of.false)
    (sym c.overflows.ensures ∙ c.if-overflows.false)
    (sym c.is_full.ensures ∙ c.if-is_full.false) in
    cc

pub invariant_of-self : goal.invariant_of-self
invariant_of-self c =
    let used = used_at _ _ c.args.name c.args.name c.args.held c.self.view_is refl
    c.requires in
    subst IsBounded (sym c.set.ensures)
    (bounded_old _ c.args.name c.joined.result c.self.invariant used)
