use Rattle.std.proofs.Common.{◌≡◌, drop}
use Rattle.mrc_dead.specs.Dead.{named_from, named_subjects}
use Rattle.mrc_dead.proofs.subjects.named_subjects.Given as goal

-- what is known so far, and the lines that are left
abbrev pub invariant-loop-line : goal.invariant-loop-line
invariant-loop-line l =
    named_from l.named (drop l.line-index l.lines) ≡ named_subjects l.lines
