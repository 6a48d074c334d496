use Rattle.std.proofs.Common.{sym, ◌∙◌}
use Rattle.mrc_names.proofs.Granting.{granted}
use Rattle.mrc_names.proofs.SpaceExits.{join_other, join_over, join_full, join_done}
use Rattle.mrc_names.proofs.foretelling.foretell_join.Goals as goal

pub returns-then-not-is_entry_of : goal.returns-then-not-is_entry_of
returns-then-not-is_entry_of c = λ x name same.
    join_other x name c.args.port c.args.right c.args.held.now
    (sym c.is_entry_of.ensures ∙ c.if-not-is_entry_of.true)

pub returns-then-overflows : goal.returns-then-overflows
returns-then-overflows c = λ x name same.
    join_over x name c.args.port c.args.right c.args.held.now
    (sym c.is_entry_of.ensures ∙ c.if-not-is_entry_of.false)
    (sym c.overflows.ensures ∙ c.if-overflows.true)

pub returns-then-full : goal.returns-then-full
returns-then-full c = λ x name same.
    join_full x name c.args.port c.args.right c.args.held.now
    (sym c.is_entry_of.ensures ∙ c.if-not-is_entry_of.false)
    (sym c.overflows.ensures ∙ c.if-overflows.false) (same ∙ c.if-full.true)

pub returns : goal.returns
returns c = λ x name same.
    granted _ _ (join_done x name c.args.port c.args.right c.args.held.now
    (sym c.is_entry_of.ensures ∙ c.if-not-is_entry_of.false)
    (sym c.overflows.ensures ∙ c.if-overflows.false) (same ∙ c.if-full.false))
