use Rattle.std.proofs.Common.{arith}
use Rattle.mrc_wiring.specs.Table.{wiring_of}
use Rattle.mrc_classes.proofs.Adding.{below_more}
use Rattle.mrc_closure.specs.Dealing.{AtTurn}
use Rattle.mrc_closure.proofs.Dealing.{all_dealt}
use Rattle.mrc_closure.proofs.rounds.round.Goals as goal

pub loop-place-preserved : goal.loop-place-preserved
loop-place-preserved c =
    below_more c.loop-place.place
    (AtTurn (wiring_of c.args.rules.now) c.args.facts.now c.args.new.now c.args.worker
    c.args.workers) c.loop-place.invariant c.in_ok-conclude_in_turn.ensures

pub returns : goal.returns
returns c =
    all_dealt (wiring_of c.args.rules.now) c.args.facts.now c.args.new.now c.args.worker
    c.args.workers c.loop-place.place c.loop-place.found
    (omega (arith, c.classes-place-end.ensures.exact)) c.loop-place.invariant
