use Rattle.std.proofs.Common.{◌≡◌, drop}
use Rattle.std.specs.List.{list_any}
use Rattle.mrc_model.specs.Wiring.{label, has_routine}
use Rattle.mrc_wiring.specs.Table.{wiring_of}
use Rattle.mrc_wiring.proofs.wired.Wired.accepts_routine.Given as goal

-- none of the items so far
abbrev pub invariant-loop-item : goal.invariant-loop-item
invariant-loop-item l =
    list_any (has_routine (wiring_of l.self)) (label (wiring_of l.self) l.fn.class)
    ≡ list_any (has_routine (wiring_of l.self)) (drop l.item-index l.item-items)
