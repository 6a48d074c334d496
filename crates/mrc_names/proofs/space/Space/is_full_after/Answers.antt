use Rattle.std.proofs.Common.{sym, ap, ◌∙◌}
use Rattle.mrc_model.specs.Space.{is_full}
use Rattle.mrc_names.proofs.ForetellingLaws.{left_is}
use Rattle.mrc_names.proofs.space.Space.is_full_after.Goals as goal

pub returns-in-Ok : goal.returns-in-Ok
returns-in-Ok c = λ y port taken.
    c.is_full_left.ensures ∙ sym (c.in-Ok.ensures.full)
    ∙ ap is_full (left_is c.args.self.now y _ c.args.name port _ c.args.disp c.in-Ok.ensures.found
    taken)
