use Rattle.std.proofs.Common.{rules}
use Rattle.mrc_wiring.specs.Table.{wiring_of}
use Rattle.mrc_facts.specs.Sets.{has}
use Rattle.mrc_model.specs.Rules.{Has, Follows}
use Rattle.mrc_classes.specs.Missing.{rule_number}
use Rattle.mrc_classes.proofs.Justified.{not_by_source}
use Rattle.mrc_classes.proofs.instances.by_rule.Goals as goal

pub returns-in_err-premises-clause-none : goal.returns-in_err-premises-clause-none
returns-in_err-premises-clause-none c =
    let none : Follows (wiring_of c.args.rules.now) (Has (has c.args.facts.now))
    (rule_number c.args.rule) c.args.fact.now → ⊥ =
    not_by_source (wiring_of c.args.rules.now) (has c.args.facts.now) c.args.rule c.args.fact.now
    c.in_ok-goal.goal c.in_ok-goal.ensures.some c.in_err-premises.ensures.none in
    search (rules, none)
