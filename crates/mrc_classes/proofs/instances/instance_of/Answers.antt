use Rattle.std.proofs.Common.{◌<◌, arith}
use Rattle.mrc_wiring.specs.Table.{wiring_of}
use Rattle.mrc_facts.specs.Sets.{has}
use Rattle.mrc_classes.proofs.Justified.{few_rules}
use Rattle.mrc_classes.proofs.instances.instance_of.Goals as goal

pub returns-clause-none : goal.returns-clause-none
returns-clause-none c = λ k x.
    let few = few_rules (wiring_of c.args.rules.now) (has c.args.facts.now) k c.args.fact x in
    let below : k < c.loop-number.number = omega (arith, few, c.loop-number-test.false) in
    c.loop-number.invariant k below x
