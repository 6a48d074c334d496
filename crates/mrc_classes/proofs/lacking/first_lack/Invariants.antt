use Rattle.std.proofs.Common.{ℕ, ◌<◌}
use Rattle.mrc_facts.specs.Sets.{has}
use Rattle.mrc_classes.specs.Lacks.{LacksNoneIn}
use Rattle.mrc_classes.proofs.lacking.first_lack.Given as goal

-- nothing is lacking in the rows so far
abbrev pub invariant-loop-row : goal.invariant-loop-row
invariant-loop-row l =
    (t : ℕ) → t < l.row → LacksNoneIn l.search.wiring (has l.search.facts) l.rule t
