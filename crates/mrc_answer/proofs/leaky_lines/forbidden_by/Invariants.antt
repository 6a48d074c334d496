use Rattle.std.proofs.Common.{◌≡◌, take}
use Rattle.mrc_base.specs.declared.Fact.{Fact}
use Rattle.mrc_facts.specs.Sets.{has}
use Rattle.mrc_answer.specs.LeakyLines.{is_forbidden}
use Rattle.mrc_answer.proofs.leaky_lines.forbidden_by.Given as goal

-- the set has what the lines so far forbid
abbrev pub invariant-loop-line : goal.invariant-loop-line
invariant-loop-line l = (f : Fact) → has l.set f ≡ is_forbidden (take l.line-index l.lines) f
