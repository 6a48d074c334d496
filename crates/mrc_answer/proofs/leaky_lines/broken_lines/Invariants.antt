use Rattle.std.proofs.Common.{◌≡◌, ℕ, take}
use Rattle.std.specs.Ordering.{nat_cmp}
use Rattle.std.specs.BTreeSet.{contains}
use Rattle.mrc_facts.specs.Sets.{has}
use Rattle.mrc_answer.specs.LeakyLines.{has_broken}
use Rattle.mrc_answer.proofs.leaky_lines.broken_lines.Given as goal

-- the set has the numbers of the lines so far that are broken
abbrev pub invariant-loop-line : goal.invariant-loop-line
invariant-loop-line l = (n : ℕ) →
    contains nat_cmp l.numbers n ≡ has_broken (has l.facts) (take l.line-index l.lines) n
