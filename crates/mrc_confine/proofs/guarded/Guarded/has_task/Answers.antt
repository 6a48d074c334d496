use Rattle.std.proofs.Common.{◌∙◌}
use Rattle.mrc_confine.proofs.guarded.Guarded.has_task.Goals as goal

-- the type keeps that a wired task is there
pub returns-clause-wired : goal.returns-clause-wired
returns-clause-wired c =
    rw (← c.self.view_is) (λ low. c.has_task.ensures.exact ∙ c.self.invariant.wired c.args.task low)
