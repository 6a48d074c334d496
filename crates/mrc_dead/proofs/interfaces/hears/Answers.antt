use Rattle.std.proofs.Common.{sym, arith, ◌<◌}
use Rattle.mrc_facts.specs.Sets.{has}
use Rattle.mrc_model.specs.Wiring.{classes}
use Rattle.mrc_wiring.specs.Table.{wiring_of}
use Rattle.mrc_dead.specs.Dead.{hears_at}
use Rattle.mrc_dead.proofs.Numbers.{any_at}
use Rattle.mrc_dead.proofs.interfaces.hears.Goals as goal

-- on this class
pub returns-then-hears_at : goal.returns-then-hears_at
returns-then-hears_at c =
    let W = wiring_of c.args.wired.now in
    let class = c.loop-class.class in
    let less : class < classes W = omega (arith, c.loop-class.invariant.0) in
    sym (any_at (hears_at W (has c.args.facts.now) c.args.interface c.args.task) (classes W) class
    less (sym c.if-hears_at.ensures))
