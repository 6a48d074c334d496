use Rattle.std.proofs.Common.{◌<◌, sym, below_more, arith}
use Rattle.mrc_facts.specs.Sets.{has}
use Rattle.mrc_classes.proofs.Justified.{justified}
use Rattle.mrc_classes.proofs.instances.Goal.premises_in.Goals as goal

pub returns-in-Some-clause-some : goal.returns-in-Some-clause-some
returns-in-Some-clause-some c =
    justified (has c.args.facts.now) c.args.self.now c.sources-first.ensures.kept
    c.loop-source.source c.candidates.result (λ A B. (c.candidates.ensures.premises A B).0)
    c.candidates.ensures.count c.in-Some.premises (sym c.in-Some.ensures.exact)

pub loop-source-init : goal.loop-source-init
loop-source-init c = λ n low x.
    let at = c.sources-first.ensures.all (has c.args.facts.now) (has c.args.facts.now) n x in
    absurd (omega (arith, at, low))

pub loop-source-preserved : goal.loop-source-preserved
loop-source-preserved c =
    below_more _ _ c.loop-source.invariant
    (λ x. c.in_default.ensures.none
    ((c.candidates.ensures.premises (has c.args.facts.now) (has c.args.facts.now)).1 x))

pub returns-clause-none : goal.returns-clause-none
returns-clause-none c = λ n x.
    let at = c.sources-first.ensures.all (has c.args.facts.now) (has c.args.facts.now) n x in
    let below : n < c.loop-source.source = omega (arith, at, c.loop-source-test.false) in
    c.loop-source.invariant n below x
