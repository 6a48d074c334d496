use Rattle.std.proofs.Common.{take}
use Rattle.mrc_why.specs.Sources.{AreSourcesOf}
use Rattle.mrc_why.proofs.sources.Sources.all.Given as goal

-- one for each of the steps so far
abbrev pub invariant-loop-step : goal.invariant-loop-step
invariant-loop-step l = AreSourcesOf l.self l.steps (take l.step-index l.steps) l.sources.items
