-- What was added so far.
use Rattle.std.proofs.Common.{◌≡◌, take, map}
use Rattle.std.specs.List.{flat_map}
use Rattle.mrc_stand_for.specs.Products.{trust_none}
use Rattle.mrc_stand_for.proofs.products.none_lines.Given as goal

abbrev pub invariant-loop-task : goal.invariant-loop-task
invariant-loop-task l =
    l.lines ≡ flat_map (λ task. map (trust_none task) l.verbs) (take l.task-index l.tasks)
