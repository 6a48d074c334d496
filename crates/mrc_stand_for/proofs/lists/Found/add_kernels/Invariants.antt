-- What was added so far.
use Rattle.std.proofs.Common.{◌≡◌, take, map}
use Rattle.mrc_wiring_text.specs.declared.policy.ClassName.TheVariants.{Task}
use Rattle.mrc_stand_for.specs.Lists.{with_classes}
use Rattle.mrc_stand_for.proofs.lists.Found.add_kernels.Given as goal

abbrev pub invariant-loop-task : goal.invariant-loop-task
invariant-loop-task l = l.self ≡ with_classes l.fn.self (map Task (take l.task-index l.tasks))
