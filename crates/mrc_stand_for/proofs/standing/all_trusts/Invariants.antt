-- What is left goes on from what was added so far.
use Rattle.std.proofs.Common.{◌≡◌, drop, []}
use Rattle.mrc_stand_for.specs.Steps.{each}
use Rattle.mrc_stand_for.specs.Standing.{add_trusts, stood_so_far}
use Rattle.mrc_stand_for.proofs.standing.all_trusts.Given as goal

abbrev pub invariant-loop-task : goal.invariant-loop-task
invariant-loop-task l =
    each (add_trusts l.line l.verbs l.rights l.classes) (stood_so_far l.fn.known []) l.tasks
    ≡ each (add_trusts l.line l.verbs l.rights l.classes) (stood_so_far l.known l.lines)
    (drop l.task-index l.tasks)
