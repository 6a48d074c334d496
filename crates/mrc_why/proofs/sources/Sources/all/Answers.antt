use Rattle.mrc_why.proofs.TextLaws.{sources_more}
use Rattle.mrc_why.proofs.sources.Sources.all.Goals as goal

pub loop-step-preserved : goal.loop-step-preserved
loop-step-preserved c =
    sources_more c.args.self.now c.args.steps.now c.args.steps.now c.loop-step.step-index
    c.step-item.result c.loop-step.sources.items c.source.result c.push.new.self.items
    c.loop-step-test.true c.step-item.is c.loop-step.invariant c.source.ensures
    c.in_ok-push.ensures.items
