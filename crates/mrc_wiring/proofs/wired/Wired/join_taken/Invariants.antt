use Rattle.std.proofs.Common.{◌≡◌, ℕ, drop}
use Rattle.std.specs.Prelude.{◌||◌, flat_map}
use Rattle.std.specs.List.{list_any}
use Rattle.mrc_bits.specs.Bits.{is_set}
use Rattle.mrc_model.specs.Wiring.{label, item_forms}
use Rattle.mrc_wiring.specs.Table.{wiring_of}
use Rattle.mrc_wiring.specs.Slots.{form_takes}
use Rattle.mrc_wiring.proofs.wired.Wired.join_taken.Given as goal

-- those of the items so far are there
abbrev pub invariant-loop-item : goal.invariant-loop-item
invariant-loop-item l = (c : ℕ) →
    (is_set l.fn.row c || list_any (form_takes (wiring_of l.self) l.disp c)
    (flat_map (item_forms (wiring_of l.self)) (label (wiring_of l.self) l.fn.to)))
    ≡ (is_set l.row c || list_any (form_takes (wiring_of l.self) l.disp c)
    (flat_map (item_forms (wiring_of l.self)) (drop l.item-index l.item-items)))
