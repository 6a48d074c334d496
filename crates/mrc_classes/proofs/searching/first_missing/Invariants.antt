use Rattle.std.proofs.Common.{◌<◌}
use Rattle.mrc_facts.specs.Sets.{has}
use Rattle.mrc_classes.specs.Lacks.{LacksNothing}
use Rattle.mrc_classes.specs.Missing.{rule_number}
use Rattle.mrc_classes.specs.declared.rule_names.RuleName.{RuleName}
use Rattle.mrc_classes.proofs.searching.first_missing.Given as goal

-- nothing is lacking by the rules so far
abbrev pub invariant-loop-number : goal.invariant-loop-number
invariant-loop-number g l =
    (rule : RuleName) → rule_number rule < l.number
    → LacksNothing l.search.wiring (has l.search.facts) rule
