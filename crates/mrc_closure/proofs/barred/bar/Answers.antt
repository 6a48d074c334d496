use Rattle.mrc_closure.proofs.Barring.{fewer_more}
use Rattle.mrc_closure.proofs.barred.bar.Goals as goal

pub loop-fact-preserved : goal.loop-fact-preserved
loop-fact-preserved c =
    fewer_more c.args.barred.now c.args.found.now c.loop-fact.found c.remove.new.self
    c.loop-fact.fact-index c.fact-item.result c.loop-fact-test.true c.fact-item.is
    c.remove.ensures.members c.loop-fact.invariant
