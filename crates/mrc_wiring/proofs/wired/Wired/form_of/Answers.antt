use Rattle.mrc_wiring.specs.Table.{wiring_of}
use Rattle.mrc_wiring.proofs.LabelForms.{in_item, stands, goes_on, in_none}
use Rattle.mrc_wiring.proofs.wired.Wired.form_of.Goals as goal

pub returns-in-Some-clause-exact : goal.returns-in-Some-clause-exact
returns-in-Some-clause-exact c =
    in_item (wiring_of c.args.self.now) c.args.class c.args.id c.label-item-items.result.now
    c.loop-place.place _ _ c.label-item-items.ensures c.loop-place-test.true c.loop-place.invariant
    c.in-Some.ensures

pub returns-in-Some-clause-placed : goal.returns-in-Some-clause-placed
returns-in-Some-clause-placed c =
    stands (wiring_of c.args.self.now) c.args.class c.args.id c.label-item-items.result.now
    c.loop-place.place _ _ c.label-item-items.ensures c.loop-place-test.true c.in-Some.ensures

pub loop-place-preserved : goal.loop-place-preserved
loop-place-preserved c =
    goes_on (wiring_of c.args.self.now) c.args.class c.args.id c.label-item-items.result.now
    c.loop-place.place _ c.loop-place-test.true c.loop-place.invariant c.in_default.ensures

pub returns-clause-exact : goal.returns-clause-exact
returns-clause-exact c =
    in_none (wiring_of c.args.self.now) c.args.class c.args.id c.label-item-items.result.now
    c.loop-place.place c.label-item-items.ensures c.loop-place-test.false c.loop-place.invariant
