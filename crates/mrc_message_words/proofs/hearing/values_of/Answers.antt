use Rattle.std.proofs.Common.{◌≡◌, Option, arith, ap, subst}
use Rattle.mrc_desc.specs.View.{argument_of}
use Rattle.mrc_forms.specs.Forms as forms
use Rattle.mrc_message_words.specs.declared.value.Value.{Value}
use Rattle.mrc_message_words.specs.Fitting.{Says}
use Rattle.mrc_message_words.proofs.Walking.{heard_next, unheard, other_count}
use Rattle.mrc_message_words.proofs.hearing.values_of.Goals as goal

pub returns-then-args-arguments : goal.returns-then-args-arguments
returns-then-args-arguments c =
    other_count c.args.arguments.now c.args.args.now c.if-args-arguments.true

pub returns-in_default : goal.returns-in_default
returns-in_default c =
    let items : c.argument.inside.items ≡ c.index-arguments-i.result.items =
    ap (λ (a : forms.Argument). a.items) c.argument.view_is in
    let none =
    subst (λ (said : Option Value). Says c.argument.inside.items (argument_of c.index-args-i.result) said)
    c.in_default.is c.in_ok-value.ensures in
    unheard c.args.arguments.now c.args.args.now c.loop-i.i c.index-arguments-i.result
    c.index-args-i.result c.argument.inside.items c.loop-i-test.true c.index-arguments-i.is
    (omega arith) c.index-args-i.is items none

pub loop-i-preserved : goal.loop-i-preserved
loop-i-preserved c =
    let items : c.argument.inside.items ≡ c.index-arguments-i.result.items =
    ap (λ (a : forms.Argument). a.items) c.argument.view_is in
    let said =
    subst (λ (said : Option Value). Says c.argument.inside.items (argument_of c.index-args-i.result) said)
    c.in-Some.is c.in_ok-value.ensures in
    rw c.in_ok-push.ensures.items
    (heard_next c.args.arguments.now c.loop-i.values.items c.args.args.now c.loop-i.i
    c.index-arguments-i.result c.in-Some.value c.index-args-i.result c.argument.inside.items
    c.loop-i-test.true c.index-arguments-i.is (omega arith) c.index-args-i.is items
    c.loop-i.invariant said)
