use Rattle.std.proofs.Common.{◌≡◌, ◌<◌, ap, sym, subst, ◌∙◌, false, arith}
use Rattle.std.specs.Prelude.{not}
use Rattle.std.proofs.lemmas.Bool.{and_from, lt-ltb, true≢false, false_from_ne_true}
use Rattle.mrc_wiring.specs.Table.{wiring_of}
use Rattle.mrc_facts.specs.Sets.{has}
use Rattle.mrc_classes.specs.Concluding.{rows}
use Rattle.mrc_classes.specs.Places.{IsNew}
use Rattle.mrc_classes.specs.declared.rule_names.RuleName.{RuleName}
use Rattle.mrc_classes.proofs.Putting.{no_notice}
use Rattle.mrc_classes.proofs.conclude.is_idle.Goals as goal

pub returns-in-Notice : goal.returns-in-Notice
returns-in-Notice c = λ idle S row k r low high x.
    let W = wiring_of c.args.rules.now in
    let N = has c.args.new.now in
    let none : c.may_have_backups.result ≡ false =
    false_from_ne_true c.may_have_backups.result (λ h. true≢false (sym idle ∙ ap not h)) in
    let there = subst (λ (q : RuleName). row < rows W q) c.in-Notice.is low in
    let few = c.classes-within.ensures.exact in
    let within = c.classes-within.ensures.within in
    let here : row < 1344 = omega (arith, few, within, there) in
    let at : k < 1344 = omega (arith, few, within, high) in
    no_notice W S N row k r
    (c.may_have_backups.ensures none k row (and_from _ _ (lt-ltb k 1344 at) (lt-ltb row 1344 here)))
    (subst (λ (q : RuleName). IsNew W S N q row k r) c.in-Notice.is x)
