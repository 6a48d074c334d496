use Rattle.std.proofs.Common.{◌≡◌, drop}
use Rattle.mrc_check.specs.Verdict.{first_broken}
use Rattle.mrc_check.proofs.verdict.first_broken.Given as goal

-- the first of what is left is the first of all
abbrev pub invariant-loop-line : goal.invariant-loop-line
invariant-loop-line l =
    first_broken l.facts l.lines ≡ first_broken l.facts (drop l.line-index l.lines)
