use Rattle.std.proofs.Common.{get_or}
use Rattle.std.proofs.lemmas.List.{get_or_default}
use Rattle.std.proofs.lemmas.Result.{err_from_is_err_and}
use Rattle.mrc_wiring.specs.Table.{wiring_of}
use Rattle.mrc_transit.specs.Sending.{fault_reply}
use Rattle.mrc_transit.proofs.ArgumentLaws.{items_none, items_room, items_stopped, items_next}
use Rattle.mrc_transit.proofs.ArgumentLaws.{item_room, items_all, items_spent}
use Rattle.mrc_transit.proofs.scratch.Scratch.take_items.Goals as goal

pub loop-name-init : goal.loop-name-init
loop-name-init c =
    items_none (wiring_of c.args.wired.now) c.args.slot.now.own c.args.disp c.args.slot.now.sort
    c.args.slot.now.argument c.args.store.now c.args.space.now c.args.self.now c.args.names.now

pub take_admitted-requires : goal.take_admitted-requires
take_admitted-requires c =
    let names = c.args.names.now in
    let k = c.loop-name.name-index in
    items_room (wiring_of c.args.wired.now) c.args.slot.now.own c.args.disp c.args.slot.now.sort
    c.args.slot.now.argument c.args.store.now c.args.space.now c.args.self.now c.loop-name.self
    k (get_or names k 0) names c.loop-name.invariant c.loop-name-test.true
    (get_or_default names k 0 (get_or names k 0) c.loop-name-test.true) c.requires

pub returns-in_err-item-clause-refused : goal.returns-in_err-item-clause-refused
returns-in_err-item-clause-refused c =
    let p = err_from_is_err_and c.from_residual.result c.from_residual.ensures.1 in
    let names = c.args.names.now in
    let k = c.loop-name.name-index in
    rw (p.1, p.2) (items_stopped (wiring_of c.args.wired.now) c.args.slot.now.own c.args.disp
    c.args.slot.now.sort c.args.slot.now.argument c.args.store.now c.args.space.now
    c.args.self.now c.loop-name.self k (get_or names k 0) names c.loop-name.invariant
    c.loop-name-test.true (get_or_default names k 0 (get_or names k 0) c.loop-name-test.true)
    (fault_reply c.in_err-item.field-0.0) c.in_err-item.ensures.refused)

pub carry-requires : goal.carry-requires
carry-requires c =
    let names = c.args.names.now in
    let k = c.loop-name.name-index in
    item_room (wiring_of c.args.wired.now) c.args.slot.now.own c.args.disp c.args.slot.now.sort
    c.args.slot.now.argument c.args.store.now c.args.space.now c.args.self.now c.loop-name.self
    k (get_or names k 0) names c.loop-name.invariant c.loop-name-test.true
    (get_or_default names k 0 (get_or names k 0) c.loop-name-test.true)
    c.take_admitted.new.self c.take_admitted.ensures.items c.requires

pub loop-name-preserved : goal.loop-name-preserved
loop-name-preserved c =
    let names = c.args.names.now in
    let k = c.loop-name.name-index in
    items_next (wiring_of c.args.wired.now) c.args.slot.now.own c.args.disp c.args.slot.now.sort
    c.args.slot.now.argument c.args.store.now c.args.space.now c.args.self.now c.loop-name.self
    k (get_or names k 0) names c.loop-name.invariant c.loop-name-test.true
    (get_or_default names k 0 (get_or names k 0) c.loop-name-test.true)
    c.take_admitted.new.self c.carry.new.self c.in_ok-item.item c.in_ok-item.ensures.taken
    c.take_admitted.ensures.rests c.take_admitted.ensures.room c.take_admitted.ensures.items
    c.carry.ensures

pub returns-clause-taken : goal.returns-clause-taken
returns-clause-taken c =
    items_all (wiring_of c.args.wired.now) c.args.slot.now.own c.args.disp c.args.slot.now.sort
    c.args.slot.now.argument c.args.store.now c.args.space.now c.args.self.now c.loop-name.self
    c.loop-name.name-index c.args.names.now c.loop-name.invariant c.loop-name-test.false

pub returns-clause-rests : goal.returns-clause-rests
returns-clause-rests c = c.loop-name.invariant.rests

pub returns-clause-room : goal.returns-clause-room
returns-clause-room c =
    items_spent (wiring_of c.args.wired.now) c.args.slot.now.own c.args.disp c.args.slot.now.sort
    c.args.slot.now.argument c.args.store.now c.args.space.now c.args.self.now c.loop-name.self
    c.loop-name.name-index c.args.names.now c.loop-name.invariant
