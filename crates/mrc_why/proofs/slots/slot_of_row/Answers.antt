use Rattle.std.proofs.Common.{sym, ap, ◌∙◌}
use Rattle.std.specs.Prelude.{find}
use Rattle.std.proofs.lemmas.Option.{IfSome_then}
use Rattle.mrc_model.specs.Wiring.{item_forms}
use Rattle.mrc_wiring.specs.Finding.{has_id}
use Rattle.mrc_wiring.specs.Table.{wiring_of}
use Rattle.mrc_why.proofs.SlotSorts.{item_slot}
use Rattle.mrc_why.proofs.slots.slot_of_row.Goals as goal

pub returns : goal.returns
returns c =
    let W = wiring_of c.args.wired.now in
    IfSome_then c.slot_of_form.result c.slot_of_form.ensures (λ names x. item_slot c.args.wired.now
    c.args.kind c.args.number c.args.interface.now c.args.row.now c.in_ok-form.form.now
    c.in_ok-typed.typed.now c.args.passing.now names c.requires.there c.ids-ids.ensures.formed
    c.requires.row (sym c.in_ok-form.ensures)
    (c.in_ok-typed.ensures
    ∙ ap (λ id. find (has_id id) (item_forms W c.item_of.result)) c.id.ensures
    ∙ ap (λ item. find (has_id c.in_ok-form.form.now.id) (item_forms W item)) c.item_of.ensures) x)
