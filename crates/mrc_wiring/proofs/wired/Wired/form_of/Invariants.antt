use Rattle.std.proofs.Common.{◌≡◌, drop, find}
use Rattle.std.specs.Prelude.{flat_map}
use Rattle.mrc_model.specs.Wiring.{item_forms}
use Rattle.mrc_wiring.specs.Table.{wiring_of}
use Rattle.mrc_wiring.specs.Finding.{has_id}
use Rattle.mrc_wiring.proofs.wired.Wired.form_of.Given as goal

-- none of the forms so far has the id
abbrev pub invariant-loop-place : goal.invariant-loop-place
invariant-loop-place l =
    find (has_id l.id) (flat_map (item_forms (wiring_of l.self)) l.item-items)
    ≡ find (has_id l.id) (flat_map (item_forms (wiring_of l.self)) (drop l.place l.item-items))
