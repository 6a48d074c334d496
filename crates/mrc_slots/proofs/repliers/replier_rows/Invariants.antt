use Rattle.mrc_wiring.specs.Table.{wiring_of}
use Rattle.mrc_slots.specs.Masks.{AreFirstRepliers}
use Rattle.mrc_slots.proofs.repliers.replier_rows.Given as goal

-- the rows of the classes up to here are there
abbrev pub invariant-loop-to : goal.invariant-loop-to
invariant-loop-to l = AreFirstRepliers (wiring_of l.wired) l.to l.rows.items
