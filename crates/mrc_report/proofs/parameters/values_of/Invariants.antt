-- The values so far are before those of the rest.
use Rattle.std.proofs.Common.{◌≡◌, ℕ, List, map, length, Bor}
use Rattle.mrc_report.specs.Parameters.{values_of}
use Rattle.mrc_report.proofs.ByteLaws.{with_front}
use Rattle.mrc_report.proofs.parameters.values_of.Given as goal

abbrev pub invariant-loop-rest : goal.invariant-loop-rest
invariant-loop-rest l =
    values_of l.kinds (map (λ (word : Bor (List ℕ)). word.now) l.words)
    ≡ with_front l.values.items
    (values_of l.left (map (λ (word : Bor (List ℕ)). word.now) l.rest))

abbrev pub decreases-loop-rest : goal.decreases-loop-rest
decreases-loop-rest l = length l.rest
