use Rattle.std.proofs.Common.{◌≡◌, ◌∙◌, ◌∷◌, ◌++◌, [], Option, arith, ap, subst}
use Rattle.std.proofs.lemmas.List.{map_push}
use Rattle.mrc_desc.specs.declared.argument.Argument.{Argument}
use Rattle.mrc_desc.specs.Lawful.{IsLawfulArg}
use Rattle.mrc_forms.specs.Forms as forms
use Rattle.mrc_message_words.specs.Fitting.{Makes}
use Rattle.mrc_desc.specs.View.{argument_of, arguments_of}
use Rattle.mrc_message_words.proofs.Counting.{all_more}
use Rattle.mrc_message_words.proofs.Walking.{values_next, ends_unfit}
use Rattle.mrc_message_words.proofs.speaking.arguments_of.Goals as goal

pub loop-i-preserved : goal.loop-i-preserved
loop-i-preserved c =
    let made =
    subst (λ (made : Option Argument). Makes c.argument.inside.items c.in-Some.value.now made)
    c.in-Some-2.is c.in_ok-made.ensures in
    let e : arguments_of c.push.new.self.items
    ≡ arguments_of c.loop-i.args.items ++ argument_of c.in-Some-2.made ∷ [] =
    ap arguments_of c.in_ok-push.ensures.items
    ∙ map_push argument_of c.loop-i.args.items c.in-Some-2.made in
    let items : c.argument.inside.items ≡ c.index-arguments-i.result.items =
    ap (λ (a : forms.Argument). a.items) c.argument.view_is in
    let found = c.in-Some.ensures.lookup in
    record {
      said = rw e
          (values_next c.args.arguments.now c.args.values.now (arguments_of c.loop-i.args.items)
          c.loop-i.i c.index-arguments-i.result c.in-Some.value.now (argument_of c.in-Some-2.made)
          c.argument.inside.items c.loop-i-test.true c.index-arguments-i.is found.3.0 found.1 items
          c.loop-i.invariant.said made.0);
      lawful = rw e
          (all_more IsLawfulArg (arguments_of c.loop-i.args.items) (argument_of c.in-Some-2.made)
          c.loop-i.invariant.lawful made.1);
      within = omega (arith, found.3.0);
    }

pub returns-then-values-arguments-clause-fault : goal.returns-then-values-arguments-clause-fault
returns-then-values-arguments-clause-fault c =
    ends_unfit c.args.arguments.now c.args.values.now (arguments_of c.loop-i.args.items) c.loop-i.i
    c.loop-i-test.false c.loop-i.auto.i-end c.if-values-arguments.true c.loop-i.invariant.said
