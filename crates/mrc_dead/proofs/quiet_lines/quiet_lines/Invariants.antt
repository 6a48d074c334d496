use Rattle.std.proofs.Common.{drop}
use Rattle.mrc_facts.specs.Sets.{has}
use Rattle.mrc_dead.proofs.Written.{ToldSoFar}
use Rattle.mrc_dead.proofs.quiet_lines.quiet_lines.Given as goal

-- what is told of the lines so far, and the classes of the last of them
abbrev pub invariant-loop-line : goal.invariant-loop-line
invariant-loop-line l =
    ToldSoFar l.wired (has l.facts) l.lines l.quiet.items l.last l.classes.items
    (drop l.line-index l.lines)
