use Rattle.mrc_facts.specs.Sets.{has}
use Rattle.mrc_classes.specs.Growing.{Added, Below}
use Rattle.mrc_classes.specs.Places.{AtPlace}
use Rattle.mrc_wiring.specs.Table.{wiring_of}
use Rattle.mrc_classes.proofs.conclude.conclude.Given as goal

-- what was found so far is that of the earlier numbers
abbrev pub invariant-loop-place : goal.invariant-loop-place
invariant-loop-place l =
    Added (has l.fn.found) (has l.found)
    (Below l.place (AtPlace (wiring_of l.rules) (has l.all) (has l.new) (has l.known)))
