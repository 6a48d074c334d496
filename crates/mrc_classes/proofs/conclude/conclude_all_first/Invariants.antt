use Rattle.mrc_wiring.specs.Table.{wiring_of}
use Rattle.mrc_facts.specs.Sets.{has}
use Rattle.mrc_classes.specs.Growing.{Added, Below, nothing}
use Rattle.mrc_classes.specs.Places.{FirstAt}
use Rattle.mrc_classes.proofs.conclude.conclude_all_first.Given as goal

-- found is what the rules conclude at the tasks so far
abbrev pub invariant-loop-task : goal.invariant-loop-task
invariant-loop-task l =
    Added nothing (has l.found) (Below l.task (FirstAt (wiring_of l.rules) (has l.none)))
