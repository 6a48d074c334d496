use Rattle.std.proofs.Common.{sym, arith, ◌<◌}
use Rattle.mrc_facts.specs.Sets.{has}
use Rattle.mrc_model.specs.Wiring.{classes}
use Rattle.mrc_wiring.specs.Table.{wiring_of}
use Rattle.mrc_dead.specs.Asking.{accepts, asks_at, asks_by}
use Rattle.mrc_dead.proofs.Numbers.{any_at, both}
use Rattle.mrc_dead.proofs.asking.asks_for.Goals as goal

-- at this class
pub returns-then-asks_at : goal.returns-then-asks_at
returns-then-asks_at c =
    let W = wiring_of c.args.wired.now in
    let set = has c.args.facts.now in
    let class = c.loop-class.class in
    let less : class < classes W = omega (arith, c.loop-class.invariant.0) in
    sym (any_at (asks_by W set c.args.item c.args.task) (classes W) class less
    (both (accepts W c.args.item class) (asks_at W set class c.args.task)
    (sym c.if-accepts.ensures) (sym c.if-asks_at.ensures)))
