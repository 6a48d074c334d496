use Rattle.std.proofs.Common.{sym, ◌∙◌}
use Rattle.mrc_names.proofs.Granting.{granted}
use Rattle.mrc_names.proofs.SpaceExits.{new_full, new_put}
use Rattle.mrc_names.proofs.foretelling.foretell_new.Goals as goal

pub returns-then-full : goal.returns-then-full
returns-then-full c = λ x name port right same.
    new_full x name port right c.args.held (sym c.is_some.ensures ∙ c.if-is_some.false)
    (same ∙ c.if-full.true)

pub returns : goal.returns
returns c = λ x name port right same.
    granted _ _ (new_put x name port right c.args.held
    (sym c.is_some.ensures ∙ c.if-is_some.false) (same ∙ c.if-full.false))
