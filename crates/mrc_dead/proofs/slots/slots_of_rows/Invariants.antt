use Rattle.std.proofs.Common.{◌≡◌, take}
use Rattle.std.specs.List.{flat_map}
use Rattle.mrc_dead.specs.Dead.{dead_of_row}
use Rattle.mrc_dead.specs.Searching.{wanted}
use Rattle.mrc_dead.proofs.slots.slots_of_rows.Given as goal

-- those of the rows so far
abbrev pub invariant-loop-row : goal.invariant-loop-row
invariant-loop-row l =
    (l.row-items ≡ l.interface.rows)
    × (l.dead.items ≡ flat_map (dead_of_row (wanted l.search)) (take l.row-index l.row-items))
