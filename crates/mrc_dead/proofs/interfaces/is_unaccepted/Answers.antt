use Rattle.std.proofs.Common.{ap, sym, arith, ◌<◌}
use Rattle.std.specs.Prelude.{not}
use Rattle.mrc_model.specs.Wiring.{classes}
use Rattle.mrc_wiring.specs.Table.{wiring_of}
use Rattle.mrc_dead.specs.Dead.{accepts_some}
use Rattle.mrc_dead.proofs.Numbers.{any_at}
use Rattle.mrc_dead.proofs.interfaces.is_unaccepted.Goals as goal

-- this class accepts something
pub returns-then-accepts_some : goal.returns-then-accepts_some
returns-then-accepts_some c =
    let W = wiring_of c.args.wired.now in
    let class = c.loop-class.class in
    let less : class < classes W = omega (arith, c.loop-class.invariant.0) in
    ap not (sym (any_at (accepts_some W c.args.interface) (classes W) class less
    (sym c.if-accepts_some.ensures)))
