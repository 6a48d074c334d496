use Rattle.std.proofs.Common.{sym, ap, ◌∙◌}
use Rattle.mrc_model.specs.declared.Verb.TheVariants.{Sends}
use Rattle.mrc_model.specs.Map.{get}
use Rattle.mrc_model.specs.Wiring.{admits, may}
use Rattle.mrc_ports.specs.Tables.{Table}
use Rattle.mrc_wiring.specs.Table.{wiring_of}
use Rattle.mrc_transit.proofs.AdmitLaws.{admit_absent, admit_denied, admit_unsent, admit_found}
use Rattle.mrc_transit.proofs.sending.admit.Goals as goal

pub returns-in_default-clause-refused : goal.returns-in_default-clause-refused
returns-in_default-clause-refused c =
    admit_absent (wiring_of c.args.wired.now) c.args.slot.now.own c.args.store.now
    c.args.slot.now.sort c.args.slot.now.argument c.in-Right.port c.args.item.now c.in-Right.right
    c.in-Right.is
    (sym (c.in_default.ensures ∙ ap (λ (t : Table). get t.ports c.in-Right.port) c.ports.ensures))

pub returns-then-not-admits-clause-refused : goal.returns-then-not-admits-clause-refused
returns-then-not-admits-clause-refused c =
    admit_denied (wiring_of c.args.wired.now) c.args.slot.now.own c.args.store.now
    c.args.slot.now.sort c.args.slot.now.argument c.in-Right.port c.args.item.now c.in-Right.right
    c.in-Right.is c.in-Some.found.now
    (sym (c.in-Some.ensures ∙ ap (λ (t : Table). get t.ports c.in-Right.port) c.ports.ensures))
    (ap (admits (wiring_of c.args.wired.now) c.args.slot.now.sort) (sym c.class.ensures)
    ∙ sym c.admits.ensures ∙ c.if-not-admits.true)

pub returns-then-not-may-clause-refused : goal.returns-then-not-may-clause-refused
returns-then-not-may-clause-refused c =
    admit_unsent (wiring_of c.args.wired.now) c.args.slot.now.own c.args.store.now
    c.args.slot.now.sort c.args.slot.now.argument c.in-Right.port c.args.item.now c.in-Right.right
    c.in-Right.is c.in-Some.found.now
    (sym (c.in-Some.ensures ∙ ap (λ (t : Table). get t.ports c.in-Right.port) c.ports.ensures))
    (ap (admits (wiring_of c.args.wired.now) c.args.slot.now.sort) (sym c.class.ensures)
    ∙ sym c.admits.ensures ∙ c.if-not-admits.false)
    (ap (may (wiring_of c.args.wired.now) Sends c.args.slot.now.own c.in-Right.right)
    (sym c.class-2.ensures) ∙ sym c.may.ensures ∙ c.if-not-may.true)

pub returns-clause-ok : goal.returns-clause-ok
returns-clause-ok c =
    admit_found (wiring_of c.args.wired.now) c.args.slot.now.own c.args.store.now
    c.args.slot.now.sort c.args.slot.now.argument c.in-Right.port c.args.item.now c.in-Right.right
    c.in-Right.is c.in-Some.found.now
    (sym (c.in-Some.ensures ∙ ap (λ (t : Table). get t.ports c.in-Right.port) c.ports.ensures))
    (ap (admits (wiring_of c.args.wired.now) c.args.slot.now.sort) (sym c.class.ensures)
    ∙ sym c.admits.ensures ∙ c.if-not-admits.false)
    (ap (may (wiring_of c.args.wired.now) Sends c.args.slot.now.own c.in-Right.right)
    (sym c.class-2.ensures) ∙ sym c.may.ensures ∙ c.if-not-may.false)
