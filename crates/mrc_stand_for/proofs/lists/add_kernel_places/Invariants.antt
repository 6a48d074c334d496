-- What was added so far.
use Rattle.std.proofs.Common.{◌≡◌, take, map}
use Rattle.mrc_stand_for.specs.declared.wide.PlaceName.TheVariants.{Task}
use Rattle.mrc_stand_for.specs.Once.{with_each, same_place}
use Rattle.mrc_stand_for.proofs.lists.add_kernel_places.Given as goal

abbrev pub invariant-loop-task : goal.invariant-loop-task
invariant-loop-task l =
    l.so_far ≡ with_each same_place l.fn.so_far (map Task (take l.task-index l.tasks))
