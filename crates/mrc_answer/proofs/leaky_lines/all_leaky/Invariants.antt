use Rattle.std.proofs.Common.{◌≡◌, take}
use Rattle.std.specs.Ordering.{nat_cmp}
use Rattle.std.specs.BTreeSet.{contains}
use Rattle.mrc_facts.specs.Sets.{has}
use Rattle.mrc_answer.specs.LeakyLines.{all_leaky}
use Rattle.mrc_answer.proofs.leaky_lines.all_leaky.Given as goal

-- those of the lines so far
abbrev pub invariant-loop-line : goal.invariant-loop-line
invariant-loop-line l =
    l.leaky.items
    ≡ all_leaky (has l.facts) (has l.forbidden) (contains nat_cmp l.broken)
    (take l.line-index l.lines)
