use Rattle.std.proofs.Common.{sym, ap, ◌∙◌}
use Rattle.mrc_model.specs.Map.{get}
use Rattle.mrc_model.specs.Wiring.{fits_at}
use Rattle.mrc_ports.specs.Tables.{Table}
use Rattle.mrc_wiring.specs.Table.{wiring_of}
use Rattle.mrc_transit.proofs.AdmitLaws.{fits_absent, fits_found}
use Rattle.mrc_transit.proofs.sending.fits_item.Goals as goal

pub returns-in-Some : goal.returns-in-Some
returns-in-Some c =
    c.fits_at.ensures
    ∙ ap (fits_at (wiring_of c.args.wired.now) c.args.to c.args.id) c.class.ensures
    ∙ sym (fits_found (wiring_of c.args.wired.now) c.args.store.now c.args.to c.args.id
    c.in-Right.port c.args.item.now c.in-Right.right c.in-Some.found.now c.in-Right.is
    (sym (c.in-Some.ensures ∙ ap (λ (t : Table). get t.ports c.in-Right.port) c.ports.ensures)))

pub returns-in-None : goal.returns-in-None
returns-in-None c =
    sym (fits_absent (wiring_of c.args.wired.now) c.args.store.now c.args.to c.args.id
    c.in-Right.port c.args.item.now c.in-Right.right c.in-Right.is
    (sym (c.in-None.ensures ∙ ap (λ (t : Table). get t.ports c.in-Right.port) c.ports.ensures)))
