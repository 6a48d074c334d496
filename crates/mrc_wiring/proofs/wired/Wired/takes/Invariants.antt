use Rattle.std.proofs.Common.{◌≡◌, drop}
use Rattle.std.specs.Prelude.{flat_map}
use Rattle.std.specs.List.{list_any}
use Rattle.mrc_model.specs.Wiring.{label, item_forms}
use Rattle.mrc_wiring.specs.Table.{wiring_of}
use Rattle.mrc_wiring.specs.Slots.{form_takes}
use Rattle.mrc_wiring.proofs.wired.Wired.takes.Given as goal

-- no form of the items so far
abbrev pub invariant-loop-item : goal.invariant-loop-item
invariant-loop-item l =
    list_any (form_takes (wiring_of l.self) l.disp l.carried)
    (flat_map (item_forms (wiring_of l.self)) (label (wiring_of l.self) l.fn.to))
    ≡ list_any (form_takes (wiring_of l.self) l.disp l.carried)
    (flat_map (item_forms (wiring_of l.self)) (drop l.item-index l.item-items))
