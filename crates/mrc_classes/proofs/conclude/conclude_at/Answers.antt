use Rattle.std.proofs.Common.{arith, refl}
use Rattle.mrc_wiring.specs.Table.{wiring_of}
use Rattle.mrc_facts.specs.Sets.{has}
use Rattle.mrc_classes.specs.declared.rule_names.RuleName.TheVariants.{Weaker, Slot, Reply}
use Rattle.mrc_classes.specs.declared.rule_names.RuleName.TheVariants.{Received}
use Rattle.mrc_classes.specs.declared.rule_names.RuleName.TheVariants.{KernelPort, Request, Notice}
use Rattle.mrc_classes.specs.declared.rule_names.RuleName.TheVariants.{Returned}
use Rattle.mrc_classes.specs.Growing.{Added}
use Rattle.mrc_classes.specs.Places.{ByRule, RulesBelow}
use Rattle.mrc_classes.proofs.Putting.{no_rules, next_rule}
use Rattle.mrc_classes.proofs.conclude.conclude_at.Goals as goal

-- rule by rule
pub returns : goal.returns
returns c =
    let P = ByRule (wiring_of c.args.rules.now) (has c.args.all.now) (has c.args.new.now)
    (has c.args.known.now) c.args.place in
    let start = has c.args.found.now in
    let p3 : Added start (has c.conclude_rule.new.found) (RulesBelow 4 P) =
    next_rule P 3 Weaker start start (has c.conclude_rule.new.found) (omega arith) refl
    (no_rules P start) c.in_ok-conclude_rule.ensures in
    let p4 : Added start (has c.conclude_rule-2.new.found) (RulesBelow 5 P) =
    next_rule P 4 Slot start (has c.conclude_rule.new.found) (has c.conclude_rule-2.new.found) (omega arith) refl
    p3 c.in_ok-conclude_rule-2.ensures in
    let p5 : Added start (has c.conclude_rule-3.new.found) (RulesBelow 6 P) =
    next_rule P 5 Reply start (has c.conclude_rule-2.new.found) (has c.conclude_rule-3.new.found) (omega arith) refl
    p4 c.in_ok-conclude_rule-3.ensures in
    let p6 : Added start (has c.conclude_rule-4.new.found) (RulesBelow 7 P) =
    next_rule P 6 Received start (has c.conclude_rule-3.new.found) (has c.conclude_rule-4.new.found) (omega arith) refl
    p5 c.in_ok-conclude_rule-4.ensures in
    let p7 : Added start (has c.conclude_rule-5.new.found) (RulesBelow 8 P) =
    next_rule P 7 KernelPort start (has c.conclude_rule-4.new.found) (has c.conclude_rule-5.new.found) (omega arith) refl
    p6 c.in_ok-conclude_rule-5.ensures in
    let p8 : Added start (has c.conclude_rule-6.new.found) (RulesBelow 9 P) =
    next_rule P 8 Request start (has c.conclude_rule-5.new.found) (has c.conclude_rule-6.new.found) (omega arith) refl
    p7 c.in_ok-conclude_rule-6.ensures in
    let p9 : Added start (has c.conclude_rule-7.new.found) (RulesBelow 10 P) =
    next_rule P 9 Notice start (has c.conclude_rule-6.new.found) (has c.conclude_rule-7.new.found) (omega arith) refl
    p8 c.in_ok-conclude_rule-7.ensures in
    let p10 : Added start (has c.conclude_rule-8.new.found) (RulesBelow 11 P) =
    next_rule P 10 Returned start (has c.conclude_rule-7.new.found) (has c.conclude_rule-8.new.found) (omega arith) refl
    p9 c.in_ok-conclude_rule-8.ensures in
    p10
