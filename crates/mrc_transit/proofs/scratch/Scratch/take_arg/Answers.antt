use Rattle.std.proofs.Common.{sym, ap, ◌∙◌}
use Rattle.std.proofs.lemmas.Result.{IfErr-weaker}
use Rattle.mrc_base.specs.Disposition.{disp_number}
use Rattle.mrc_model.specs.Message.{Ports}
use Rattle.mrc_wiring.specs.Table.{wiring_of}
use Rattle.mrc_desc.specs.View.{argument_of}
use Rattle.mrc_transit.specs.Sending.{fault_reply}
use Rattle.mrc_transit.proofs.ArgumentLaws.{on_ok, data_taken, ports_taken, ports_refused}
use Rattle.mrc_transit.proofs.ArgumentLaws.{ports_spent}
use Rattle.mrc_transit.proofs.scratch.Scratch.take_arg.Goals as goal

pub returns-in-Data-clause-taken : goal.returns-in-Data-clause-taken
returns-in-Data-clause-taken c =
    data_taken (wiring_of c.args.wired.now) c.args.slot.now.own c.args.slot.now.sort
    c.args.slot.now.argument c.args.store.now c.args.space.now c.args.argument.now
    c.args.self.now c.in-Data.desc c.in-Data.bytes c.in-Data.is

pub returns-in-Ports-clause-taken : goal.returns-in-Ports-clause-taken
returns-in-Ports-clause-taken c =
    on_ok c.take_items.result _ _
    (ports_taken (wiring_of c.args.wired.now) c.args.slot.now.own c.args.slot.now.sort
    c.args.slot.now.argument c.args.store.now c.args.space.now c.args.argument.now
    c.args.self.now c.in-Ports.disp c.as_slice.result.now
    (ap argument_of c.in-Ports.is
    ∙ ap (Ports (disp_number c.in-Ports.disp)) (sym c.as_slice.ensures))
    c.take_items.new.self)
    c.take_items.ensures.taken

pub returns-in-Ports-clause-refused : goal.returns-in-Ports-clause-refused
returns-in-Ports-clause-refused c =
    IfErr-weaker c.take_items.result _ _
    (λ fault refused. ports_refused (wiring_of c.args.wired.now) c.args.slot.now.own
    c.args.slot.now.sort
    c.args.slot.now.argument c.args.store.now c.args.space.now c.args.argument.now
    c.args.self.now c.in-Ports.disp c.as_slice.result.now
    (ap argument_of c.in-Ports.is
    ∙ ap (Ports (disp_number c.in-Ports.disp)) (sym c.as_slice.ensures))
    (fault_reply fault) refused)
    c.take_items.ensures.refused

pub returns-in-Ports-clause-room : goal.returns-in-Ports-clause-room
returns-in-Ports-clause-room c =
    on_ok c.take_items.result _ _
    (ports_spent (wiring_of c.args.wired.now) c.args.slot.now.own c.args.slot.now.sort
    c.args.slot.now.argument c.args.store.now c.args.space.now c.args.argument.now
    c.args.self.now c.in-Ports.disp c.as_slice.result.now
    (ap argument_of c.in-Ports.is
    ∙ ap (Ports (disp_number c.in-Ports.disp)) (sym c.as_slice.ensures))
    c.take_items.new.self)
    c.take_items.ensures.room
