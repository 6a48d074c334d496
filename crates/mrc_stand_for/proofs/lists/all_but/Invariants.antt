-- What was added so far.
use Rattle.std.proofs.Common.{◌≡◌, take}
use Rattle.std.specs.Prelude.{filter, not}
use Rattle.mrc_stand_for.specs.Once.{is_among}
use Rattle.mrc_stand_for.proofs.lists.all_but.Given as goal

abbrev pub invariant-loop-task : goal.invariant-loop-task
invariant-loop-task l =
    l.list ≡ filter (λ task. not (is_among task l.left)) (take l.task-index l.task-items)
