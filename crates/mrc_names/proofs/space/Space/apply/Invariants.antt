use Rattle.std.proofs.Common.{◌≡◌}
use Rattle.mrc_names.specs.Leaving.{patched_by}
use Rattle.mrc_names.proofs.LeavingLaws.{CanPatch}
use Rattle.mrc_names.proofs.space.Space.apply.Given as goal

-- what is left of the changes can be put there, and leads to where all lead
abbrev pub invariant-loop-change : goal.invariant-loop-change
invariant-loop-change l = record {
  can : CanPatch l.change-iterator l.self;
  same : patched_by l.change-iterator l.self
      ≡ patched_by l.initial.change-iterator l.initial.self;
}
