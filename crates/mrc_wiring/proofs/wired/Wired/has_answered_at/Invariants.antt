use Rattle.std.proofs.Common.{◌≡◌, drop}
use Rattle.std.specs.List.{list_any}
use Rattle.mrc_model.specs.Wiring.{label, is_answered_at}
use Rattle.mrc_wiring.specs.Table.{wiring_of}
use Rattle.mrc_wiring.proofs.wired.Wired.has_answered_at.Given as goal

-- none of the items so far
abbrev pub invariant-loop-item : goal.invariant-loop-item
invariant-loop-item l =
    list_any (is_answered_at (wiring_of l.self) l.id l.class) (label (wiring_of l.self) l.fn.to)
    ≡ list_any (is_answered_at (wiring_of l.self) l.id l.class) (drop l.item-index l.item-items)
