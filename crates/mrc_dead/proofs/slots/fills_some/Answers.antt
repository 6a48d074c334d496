use Rattle.std.proofs.Common.{sym, arith, ◌<◌}
use Rattle.mrc_facts.specs.Sets.{has}
use Rattle.mrc_model.specs.Wiring.{classes}
use Rattle.mrc_wiring.specs.Table.{wiring_of}
use Rattle.mrc_dead.specs.Dead.{fills_at}
use Rattle.mrc_dead.proofs.Numbers.{any_at}
use Rattle.mrc_dead.proofs.slots.fills_some.Goals as goal

-- on this class
pub returns-then-fills_at : goal.returns-then-fills_at
returns-then-fills_at c =
    let W = wiring_of c.args.wired.now in
    let class = c.loop-class.class in
    let less : class < classes W = omega (arith, c.loop-class.invariant.0) in
    sym (any_at (fills_at W (has c.args.facts.now) c.args.disp c.args.sort c.args.task) (classes W)
    class less (sym c.if-fills_at.ensures))
