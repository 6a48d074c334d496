-- What is found at an item of a label is found in the label.
use Rattle.std.proofs.Common.{◌≡◌, ℕ, ◌<◌, List, length, get_or, subst}
use Rattle.mrc_base.specs.declared.PortRight.{PortRight}
use Rattle.mrc_model.specs.IsIn.{IsIn}
use Rattle.mrc_model.specs.declared.LabelItem.{LabelItem}
use Rattle.mrc_model.specs.Wiring.{label}
use Rattle.mrc_wiring.specs.Table.{Table, wiring_of}
use Rattle.mrc_why.specs.declared.origins.SlotNames.{SlotNames}
use Rattle.mrc_why.specs.Sources.{IsItemSlot, IsSlot, IsRoutineItem, AcceptsRoutine}
use Rattle.mrc_why.proofs.Members.{in_at}

pub routine_at : (table : Table) (d c : ℕ) (name : List ℕ) (items : List LabelItem) (i : ℕ)
    (x : LabelItem)
    → items ≡ label (wiring_of table) d
    → i < length items
    → IsRoutineItem table (get_or items i x) c name
    → AcceptsRoutine table d c name
routine_at table d c name items i x all less routine = record {
  item = get_or items i x;
  in_label = subst (IsIn (get_or items i x)) all (in_at items i x less);
  routine = routine;
}

pub slot_at : (table : Table) (d c : ℕ) (q r : PortRight) (names : SlotNames)
    (items : List LabelItem) (i : ℕ) (x : LabelItem)
    → items ≡ label (wiring_of table) d
    → i < length items
    → IsItemSlot table (get_or items i x) c q r names
    → IsSlot table d c q r names
slot_at table d c q r names items i x all less slot = record {
  item = get_or items i x;
  in_label = subst (IsIn (get_or items i x)) all (in_at items i x less);
  slot = slot;
}
