use Rattle.mrc_wiring.specs.Table.{wiring_of}
use Rattle.mrc_classes.proofs.Beginning.{one_listed}
use Rattle.mrc_classes.proofs.first_facts.put_holds.Goals as goal

pub loop-fact-preserved : goal.loop-fact-preserved
loop-fact-preserved c =
    one_listed (wiring_of c.args.wired.now) c.args.list.now c.loop-fact.fact-index
    c.fact-item.result c.loop-fact-test.true c.fact-item.is _ _ _ c.is_hold_in_range.result
    c.is_hold_in_range.ensures c.loop-fact.invariant c.in_ok-put_if.ensures
