use Rattle.std.proofs.Common.{◌*◌}
use Rattle.mrc_wiring.specs.Table.{wiring_of}
use Rattle.mrc_slots.specs.Masks.{AreFirstRows}
use Rattle.mrc_slots.proofs.masks.taken_rows.Given as goal

-- the rows of the classes up to here are there
abbrev pub invariant-loop-class : goal.invariant-loop-class
invariant-loop-class l = AreFirstRows (wiring_of l.wired) (9 * l.class) l.rows.items
