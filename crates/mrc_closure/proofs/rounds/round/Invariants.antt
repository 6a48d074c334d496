use Rattle.mrc_wiring.specs.Table.{wiring_of}
use Rattle.mrc_facts.specs.Sets.{has}
use Rattle.mrc_classes.specs.Growing.{Added, Below, nothing}
use Rattle.mrc_closure.specs.Dealing.{AtTurn}
use Rattle.mrc_closure.proofs.rounds.round.Given as goal

-- found is what follows at those of the worker's places that were looked at
abbrev pub invariant-loop-place : goal.invariant-loop-place
invariant-loop-place l =
    Added nothing (has l.found)
    (Below l.place (AtTurn (wiring_of l.rules) l.facts l.new l.worker l.workers))
