-- What is left goes on from what was added so far.
use Rattle.std.proofs.Common.{◌≡◌, drop}
use Rattle.mrc_stand_for.specs.Steps.{each}
use Rattle.mrc_stand_for.specs.Lists.{add_births}
use Rattle.mrc_stand_for.proofs.lists.Found.add_each_births.Given as goal

abbrev pub invariant-loop-task : goal.invariant-loop-task
invariant-loop-task l =
    each (add_births l.known l.line l.kinds) l.fn.self l.tasks
    ≡ each (add_births l.known l.line l.kinds) l.self (drop l.task-index l.tasks)
