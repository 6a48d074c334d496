use Rattle.std.proofs.Common.{◌≡◌, drop}
use Rattle.std.specs.Prelude.{find}
use Rattle.mrc_facts.specs.Sets.{has}
use Rattle.mrc_why.specs.Broken.{is_broken}
use Rattle.mrc_mend.proofs.judging.broken_of.Given as goal

-- the first of what is left is the first of all
abbrev pub invariant-loop-line : goal.invariant-loop-line
invariant-loop-line l =
    find (is_broken (has l.facts)) l.lines
    ≡ find (is_broken (has l.facts)) (drop l.line-index l.lines)
