use Rattle.std.proofs.lemmas.Result.{err_from_is_err_and}
use Rattle.mrc_model.specs.Wiring.{form_shapes}
use Rattle.mrc_wiring.specs.Table.{wiring_of}
use Rattle.mrc_transit.specs.Sending.{fault_reply}
use Rattle.mrc_transit.proofs.ArgumentLaws.{args_none, args_room, args_stopped, args_next, args_all}
use Rattle.mrc_transit.proofs.scratch.Scratch.take_args.Goals as goal

pub loop-i-init : goal.loop-i-init
loop-i-init c =
    args_none (wiring_of c.args.wired.now) c.args.own (form_shapes c.args.form.now.found.now)
    c.args.store.now c.args.space.now c.args.self.now c.args.arguments.now

pub take_arg-requires : goal.take_arg-requires
take_arg-requires c =
    args_room (wiring_of c.args.wired.now) c.args.own (form_shapes c.args.form.now.found.now)
    c.args.store.now c.args.space.now c.args.self.now c.loop-i.self c.loop-i.i c.sort.result
    c.index-arguments-i.result c.args.arguments.now c.loop-i.invariant c.loop-i-test.true
    c.index-arguments-i.is c.sort.ensures c.requires.room

pub returns-in_err-take_arg-clause-refused : goal.returns-in_err-take_arg-clause-refused
returns-in_err-take_arg-clause-refused c =
    let p = err_from_is_err_and c.from_residual.result c.from_residual.ensures.1 in
    rw (p.1, p.2) (args_stopped (wiring_of c.args.wired.now) c.args.own
    (form_shapes c.args.form.now.found.now)
    c.args.store.now c.args.space.now c.args.self.now c.loop-i.self c.loop-i.i c.sort.result
    c.index-arguments-i.result c.args.arguments.now c.loop-i.invariant c.loop-i-test.true
    c.index-arguments-i.is c.sort.ensures
    (fault_reply c.in_err-take_arg.field-0.0) c.in_err-take_arg.ensures.refused)

pub loop-i-preserved : goal.loop-i-preserved
loop-i-preserved c =
    args_next (wiring_of c.args.wired.now) c.args.own (form_shapes c.args.form.now.found.now)
    c.args.store.now c.args.space.now c.args.self.now c.loop-i.self c.loop-i.i c.sort.result
    c.index-arguments-i.result c.args.arguments.now c.loop-i.invariant c.loop-i-test.true
    c.index-arguments-i.is c.sort.ensures c.take_arg.new.self c.in_ok-take_arg.ensures.taken
    c.take_arg.ensures.rests c.in_ok-take_arg.ensures.room

pub returns-clause-taken : goal.returns-clause-taken
returns-clause-taken c =
    args_all (wiring_of c.args.wired.now) c.args.own (form_shapes c.args.form.now.found.now)
    c.args.store.now c.args.space.now c.args.self.now c.loop-i.self c.loop-i.i
    c.args.arguments.now c.loop-i.invariant c.loop-i-test.false

pub returns-clause-rests : goal.returns-clause-rests
returns-clause-rests c = c.loop-i.invariant.rests
