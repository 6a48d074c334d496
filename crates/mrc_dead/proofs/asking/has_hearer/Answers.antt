use Rattle.std.proofs.Common.{sym, arith, ◌<◌, length}
use Rattle.mrc_facts.specs.Sets.{has}
use Rattle.mrc_dead.specs.Asking.{may_hear}
use Rattle.mrc_dead.proofs.Numbers.{any_at}
use Rattle.mrc_dead.proofs.asking.has_hearer.Goals as goal

-- this task is asked
pub returns-then-may_hear : goal.returns-then-may_hear
returns-then-may_hear c =
    let less : c.loop-other.other < length c.args.wired.now.names =
    omega (arith, c.loop-other.invariant.0) in
    sym (any_at (may_hear (has c.args.facts.now) c.args.class c.args.task)
    (length c.args.wired.now.names) c.loop-other.other less (sym c.if-may_hear.ensures))
