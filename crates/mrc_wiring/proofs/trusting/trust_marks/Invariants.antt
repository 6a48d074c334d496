-- What the lines so far mark.
use Rattle.std.proofs.Common.{◌≡◌, take}
use Rattle.mrc_wiring.specs.Trusting.{trust_marks}
use Rattle.mrc_wiring.proofs.trusting.trust_marks.Given as goal

abbrev pub invariant-loop-line : goal.invariant-loop-line
invariant-loop-line l =
    l.marks.items ≡ trust_marks l.ports l.tasks l.births (take l.line-index l.lines)
