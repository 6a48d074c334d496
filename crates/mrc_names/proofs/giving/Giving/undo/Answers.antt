use Rattle.std.proofs.Common.{◌∙◌}
use Rattle.mrc_index.proofs.UndoLaws.{step_can, step_rest, step_same}
use Rattle.mrc_names.proofs.giving.Giving.undo.Goals as goal

pub leave-requires : goal.leave-requires
leave-requires c =
    step_can c.loop-step.trail.items c.pop.new.self.items c.in-Some.step c.loop-step.space
    c.in-Some.ensures.items c.loop-step.invariant.can

pub loop-step-preserved : goal.loop-step-preserved
loop-step-preserved c = record {
  can = step_rest c.loop-step.trail.items c.pop.new.self.items c.in-Some.step c.loop-step.space
      c.leave.new.self c.in-Some.ensures.items c.loop-step.invariant.can c.leave.ensures;
  same = step_same c.loop-step.trail.items c.pop.new.self.items c.in-Some.step c.loop-step.space
      c.leave.new.self c.in-Some.ensures.items c.leave.ensures ∙ c.loop-step.invariant.same;
}
