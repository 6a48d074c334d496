use Rattle.mrc_facts.specs.Sets.{has}
use Rattle.mrc_draw.proofs.Made.{set_more}
use Rattle.mrc_draw.proofs.sets.set_of.Goals as goal

pub loop-fact-preserved : goal.loop-fact-preserved
loop-fact-preserved c =
    set_more c.args.facts.now c.loop-fact.fact-index c.fact-item.result c.loop-fact-test.true
    c.fact-item.is (has c.loop-fact.set) (has c.insert.new.self) c.loop-fact.invariant
    c.in_ok-_new.ensures.members
