-- What was added so far.
use Rattle.std.proofs.Common.{◌≡◌, take}
use Rattle.std.specs.List.{flat_map}
use Rattle.mrc_stand_for.specs.Products.{reply_lines}
use Rattle.mrc_stand_for.proofs.products.replies_lines.Given as goal

abbrev pub invariant-loop-task : goal.invariant-loop-task
invariant-loop-task l =
    l.lines ≡ flat_map (λ task. reply_lines task l.kind l.subsystems) (take l.task-index l.tasks)
