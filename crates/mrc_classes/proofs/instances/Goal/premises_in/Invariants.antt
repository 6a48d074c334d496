use Rattle.std.proofs.Common.{ℕ, ◌<◌}
use Rattle.mrc_facts.specs.Sets.{has}
use Rattle.mrc_classes.specs.Instances.{IsSource}
use Rattle.mrc_classes.proofs.instances.Goal.premises_in.Given as goal

-- no source up to here concludes the fact
abbrev pub invariant-loop-source : goal.invariant-loop-source
invariant-loop-source l =
    (n : ℕ) → n < l.source → IsSource (has l.facts) (has l.facts) l.self n → ⊥
