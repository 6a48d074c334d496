use Rattle.std.proofs.Common.{List, subst}
use Rattle.mrc_wiring_text.specs.declared.reading.Line.{Line}
use Rattle.mrc_report.specs.declared.script.TaskCall.{TaskCall}
use Rattle.mrc_attack.specs.Leaks.{IsEnd}
use Rattle.mrc_attack.proofs.Ends.{end_none, end_next, end_whole}
use Rattle.mrc_attack.proofs.judging.end_of.Goals as goal

pub loop-line-init : goal.loop-line-init
loop-line-init c = end_none c.args.wired.now c.in_ok-world.world c.in_ok-world.ensures.exact

pub loop-line-preserved : goal.loop-line-preserved
loop-line-preserved c =
    end_next c.args.wired.now c.lines-line-items.result.now c.loop-line.line-index c.line-item.result
    c.loop-line.world c.step.new.self _ c.loop-line.invariant c.loop-line-test.true
    c.line-item.is c.in_ok-_reply.ensures.step

pub returns : goal.returns
returns c =
    subst (λ (all : List (Line TaskCall)). IsEnd c.args.wired.now all c.loop-line.world)
    c.lines-line-items.ensures
    (end_whole c.args.wired.now c.lines-line-items.result.now c.loop-line.line-index c.loop-line.world
    c.loop-line.invariant c.loop-line-test.false)
