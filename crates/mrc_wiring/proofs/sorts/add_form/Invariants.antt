use Rattle.std.proofs.Common.{◌≡◌, ◌++◌, drop, map}
use Rattle.mrc_wiring.specs.Sorts.{slot_sort}
use Rattle.mrc_wiring.specs.SortPlaces.{IsFirsts}
use Rattle.mrc_wiring.proofs.sorts.add_form.Given as goal

-- the types so far and those of the slots that are left are all, and the first places are known
abbrev pub invariant-loop-slot : goal.invariant-loop-slot
invariant-loop-slot l = record {
  added : l.sorts.items ++ map (slot_sort l.interface) (drop l.slot-index l.slot-items)
      ≡ l.fn.sorts.items ++ map (slot_sort l.interface) l.slot-items;
  firsts : IsFirsts l.interface l.sorts.items l.firsts;
}
