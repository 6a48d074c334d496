use Rattle.mrc_model.specs.declared.Code.TheVariants.{MachSendInvalidRight}
use Rattle.mrc_model.specs.Reply.{Refused}
use Rattle.mrc_wiring.specs.Table.{wiring_of}
use Rattle.mrc_transit.specs.Staging.{staged, taken_of}
use Rattle.mrc_transit.specs.Sending.{fault_reply}
use Rattle.mrc_transit.proofs.AdmitLaws.{admitted, not_admitted}
use Rattle.mrc_transit.proofs.ArgumentLaws.{name_refused}
use Rattle.mrc_transit.proofs.scratch.Scratch.take_admitted.Goals as goal

pub returns-in_default-clause-refused : goal.returns-in_default-clause-refused
returns-in_default-clause-refused c = λ t.
    name_refused (wiring_of c.args.wired.now) c.args.slot.now.own t c.args.slot.now.sort
    c.args.slot.now.argument c.args.name c.args.disp
    (staged c.args.store.now t (taken_of c.args.space.now c.args.self.now))
    (Refused MachSendInvalidRight)
    (c.in_default.ensures.refused c.args.store.now t (Refused MachSendInvalidRight))

pub returns-in-Ok-admit-clause-taken : goal.returns-in-Ok-admit-clause-taken
returns-in-Ok-admit-clause-taken c = λ t.
    admitted (wiring_of c.args.wired.now) c.args.slot.now.own c.args.store.now t c.args.name
    c.args.disp c.args.slot.now.sort c.args.slot.now.argument
    (taken_of c.args.space.now c.args.self.now) (taken_of c.args.space.now c.take_item.new.self)
    c.in-Ok.item (c.in-Ok.ensures.taken c.args.store.now t (Refused MachSendInvalidRight))
    c.in-Ok-admit.ensures.ok

pub returns-in-Err-clause-refused : goal.returns-in-Err-clause-refused
returns-in-Err-clause-refused c = λ t.
    not_admitted (wiring_of c.args.wired.now) c.args.slot.now.own c.args.store.now t c.args.name
    c.args.disp c.args.slot.now.sort c.args.slot.now.argument
    (taken_of c.args.space.now c.args.self.now) (taken_of c.args.space.now c.take_item.new.self)
    c.in-Ok.item (c.in-Ok.ensures.taken c.args.store.now t (Refused MachSendInvalidRight))
    (fault_reply c.in-Err.fault) c.in-Err.ensures.refused
