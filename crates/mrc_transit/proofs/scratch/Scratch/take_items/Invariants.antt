use Rattle.mrc_wiring.specs.Table.{wiring_of}
use Rattle.mrc_transit.proofs.ArgumentLaws.{ItemsAre}
use Rattle.mrc_transit.proofs.scratch.Scratch.take_items.Given as goal

-- the items so far are those of the names so far
abbrev pub invariant-loop-name : goal.invariant-loop-name
invariant-loop-name l =
    ItemsAre (wiring_of l.wired) l.slot.own l.disp l.slot.sort l.slot.argument l.store l.space
    l.fn.self l.self l.name-index l.names
