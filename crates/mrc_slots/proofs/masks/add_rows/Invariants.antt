use Rattle.mrc_wiring.specs.Table.{wiring_of}
use Rattle.mrc_slots.specs.Masks.{AreFirstRows}
use Rattle.mrc_slots.proofs.masks.add_rows.Given as goal

-- the rows up to here are there
abbrev pub invariant-loop-number : goal.invariant-loop-number
invariant-loop-number l = AreFirstRows (wiring_of l.wired) l.number l.rows.items
