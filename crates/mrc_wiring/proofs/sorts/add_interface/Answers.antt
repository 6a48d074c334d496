use Rattle.std.proofs.Common.{◌++◌, sym, ap, map}
use Rattle.std.specs.Prelude.{flat_map}
use Rattle.mrc_wiring.specs.Sorts.{slot_sort, row_slots}
use Rattle.mrc_wiring.proofs.SortPlaceLaws.{none_of_next}
use Rattle.mrc_wiring.proofs.sorts.add_interface.Goals as goal

-- no type has a place before the first
pub loop-row-init : goal.loop-row-init
loop-row-init c = record {
  added = ap (λ rows. c.args.sorts.now.items
      ++ map (slot_sort c.args.number) (flat_map row_slots rows)) c.rows-row-items.ensures;
  firsts = λ name. rw c.new-firsts.ensures.empty
      (sym (none_of_next c.args.number c.args.sorts.now.items name c.requires));
}
