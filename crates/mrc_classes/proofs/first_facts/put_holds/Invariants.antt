use Rattle.std.proofs.Common.{take}
use Rattle.mrc_wiring.specs.Table.{wiring_of}
use Rattle.mrc_facts.specs.Sets.{has}
use Rattle.mrc_classes.specs.Growing.{Added}
use Rattle.mrc_classes.specs.Parts.{IsListedHold}
use Rattle.mrc_classes.proofs.first_facts.put_holds.Given as goal

-- the holds so far are in the set
abbrev pub invariant-loop-fact : goal.invariant-loop-fact
invariant-loop-fact l =
    Added (has l.fn.facts) (has l.facts)
    (IsListedHold (wiring_of l.wired) (take l.fact-index l.list))
