use Rattle.std.proofs.Common.{ℕ, ◌+◌, ◌<◌}
use Rattle.mrc_mend.specs.Causes.{IsUsed}
use Rattle.mrc_mend.proofs.causes.have_no_idle.Given as goal

-- each step before the place is a premise of another
abbrev pub invariant-loop-place : goal.invariant-loop-place
invariant-loop-place l = (n : ℕ) → n + 1 < l.place → IsUsed l.steps n
