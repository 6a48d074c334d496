use Rattle.std.proofs.Common.{◌≡◌, length}
use Rattle.mrc_facts.specs.Sets.{has}
use Rattle.mrc_wiring.specs.Table.{wiring_of}
use Rattle.mrc_dead.specs.Searching.{AreAskers}
use Rattle.mrc_dead.proofs.slots.askers_of.Given as goal

-- those of the interfaces so far
abbrev pub invariant-loop-interface : goal.invariant-loop-interface
invariant-loop-interface l =
    (l.interface-end ≡ length l.wired.interfaces)
    × AreAskers (wiring_of l.wired) (has l.facts) l.kind l.interface l.rows.items
