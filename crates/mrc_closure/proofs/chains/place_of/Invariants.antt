use Rattle.std.proofs.Common.{ℕ, ◌<◌}
use Rattle.mrc_closure.specs.Chains.{IsAt}
use Rattle.mrc_closure.proofs.chains.place_of.Given as goal

-- no step so far concludes the fact
abbrev pub invariant-loop-place : goal.invariant-loop-place
invariant-loop-place l = (n : ℕ) → n < l.place → IsAt l.steps n l.fact → ⊥
