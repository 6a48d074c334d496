use Rattle.std.proofs.Common.{◌≡◌, length}
use Rattle.mrc_index.specs.Undo.{CanUndo, undone}
use Rattle.mrc_names.proofs.giving.Giving.undo.Given as goal

-- what is left to undo leads to where all leads
abbrev pub invariant-loop-step : goal.invariant-loop-step
invariant-loop-step l = record {
  can : CanUndo l.trail.items l.space;
  same : undone l.trail.items l.space ≡ undone l.initial.trail.items l.initial.space;
}

abbrev pub decreases-loop-step : goal.decreases-loop-step
decreases-loop-step l = length l.trail.items
