use Rattle.std.proofs.Common.{sym, ap, ◌∙◌}
use Rattle.mrc_model.specs.Map.{get}
use Rattle.mrc_model.specs.Wiring.{may}
use Rattle.mrc_ports.specs.Tables.{Table}
use Rattle.mrc_wiring.specs.Table.{wiring_of}
use Rattle.mrc_transit.proofs.AdmitLaws.{may_absent, may_found}
use Rattle.mrc_transit.proofs.sending.may_item.Goals as goal

pub returns-in-Some : goal.returns-in-Some
returns-in-Some c =
    c.may.ensures
    ∙ ap (may (wiring_of c.args.wired.now) c.args.verb c.args.own c.in-Right.right) c.class.ensures
    ∙ sym (may_found (wiring_of c.args.wired.now) c.args.store.now c.args.verb c.args.own
    c.in-Right.port c.args.item.now c.in-Right.right c.in-Some.found.now c.in-Right.is
    (sym (c.in-Some.ensures ∙ ap (λ (t : Table). get t.ports c.in-Right.port) c.ports.ensures)))

pub returns-in-None : goal.returns-in-None
returns-in-None c =
    sym (may_absent (wiring_of c.args.wired.now) c.args.store.now c.args.verb c.args.own
    c.in-Right.port c.args.item.now c.in-Right.right c.in-Right.is
    (sym (c.in-None.ensures ∙ ap (λ (t : Table). get t.ports c.in-Right.port) c.ports.ensures)))
