use Rattle.std.proofs.Common.{◌≡◌, drop}
use Rattle.std.specs.List.{list_any}
use Rattle.mrc_model.specs.Wiring.{label, is_reply_of}
use Rattle.mrc_wiring.specs.Table.{wiring_of}
use Rattle.mrc_wiring.proofs.wired.Wired.accepts_reply.Given as goal

-- none of the items so far
abbrev pub invariant-loop-item : goal.invariant-loop-item
invariant-loop-item l =
    list_any (is_reply_of l.number) (label (wiring_of l.self) l.fn.class)
    ≡ list_any (is_reply_of l.number) (drop l.item-index l.item-items)
