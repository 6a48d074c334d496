use Rattle.std.proofs.Common.{ap, sym, arith, ◌<◌, length}
use Rattle.std.specs.Prelude.{not}
use Rattle.mrc_facts.specs.Sets.{has}
use Rattle.mrc_wiring.specs.Table.{wiring_of}
use Rattle.mrc_dead.specs.Asking.{asks_at}
use Rattle.mrc_dead.proofs.Numbers.{any_at}
use Rattle.mrc_dead.proofs.asking.is_quiet.Goals as goal

-- this task may ask another
pub returns-then-asks_at : goal.returns-then-asks_at
returns-then-asks_at c =
    let less : c.loop-task.task < length c.args.wired.now.names =
    omega (arith, c.loop-task.invariant.0) in
    ap not (sym (any_at (asks_at (wiring_of c.args.wired.now) (has c.args.facts.now) c.args.class)
    (length c.args.wired.now.names) c.loop-task.task less (sym c.if-asks_at.ensures)))
