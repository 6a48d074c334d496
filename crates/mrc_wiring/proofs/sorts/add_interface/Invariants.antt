use Rattle.std.proofs.Common.{◌≡◌, ◌++◌, drop, map}
use Rattle.std.specs.Prelude.{flat_map}
use Rattle.mrc_wiring.specs.Sorts.{slot_sort, row_slots, interface_sorts}
use Rattle.mrc_wiring.specs.SortPlaces.{IsFirsts}
use Rattle.mrc_wiring.proofs.sorts.add_interface.Given as goal

-- the types so far and those of the rows that are left are all, and the first places are known
abbrev pub invariant-loop-row : goal.invariant-loop-row
invariant-loop-row l = record {
  added : l.sorts.items
      ++ map (slot_sort l.number) (flat_map row_slots (drop l.row-index l.row-items))
      ≡ l.fn.sorts.items ++ interface_sorts l.number l.interface;
  firsts : IsFirsts l.number l.sorts.items l.firsts;
}
