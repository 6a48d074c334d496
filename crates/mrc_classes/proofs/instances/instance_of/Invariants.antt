use Rattle.std.proofs.Common.{ℕ, ◌<◌}
use Rattle.mrc_wiring.specs.Table.{wiring_of}
use Rattle.mrc_facts.specs.Sets.{has}
use Rattle.mrc_model.specs.Rules.{Has, Follows}
use Rattle.mrc_classes.proofs.instances.instance_of.Given as goal

-- no rule up to here concludes the fact
abbrev pub invariant-loop-number : goal.invariant-loop-number
invariant-loop-number l =
    (k : ℕ) → k < l.number → Follows (wiring_of l.rules) (Has (has l.facts)) k l.fact → ⊥
