use Rattle.std.proofs.Common.{◌≡◌, ◌<◌, ◌^◌, drop}
use Rattle.std.specs.List.{AllByRecursion}
use Rattle.mrc_transit.proofs.ReceiveWalks.{ItemsWalk}
use Rattle.mrc_transit.proofs.receiving.give_items.Given as goal

abbrev pub invariant-loop-item : goal.invariant-loop-item
invariant-loop-item l =
    ItemsWalk l.initial.giving.space l.giving.space l.items (drop l.item-index l.items)
    l.names.items
    × AllByRecursion (λ name. name < 2 ^ 32) l.names.items
    × (l.giving.base ≡ l.initial.giving.base)
