use Rattle.std.proofs.Common.{ap, sym, ◌∙◌}
use Rattle.std.specs.Prelude.{find}
use Rattle.mrc_model.specs.Wiring.{item_forms}
use Rattle.mrc_wiring.specs.Finding.{has_id}
use Rattle.mrc_wiring.specs.Table.{wiring_of}
use Rattle.mrc_dead.proofs.SlotSteps.{typed_of, typed_there}
use Rattle.mrc_dead.proofs.slots.judge_message.Goals as goal

-- the form that is found is that of the row
pub judge_form-requires-clause-typed : goal.judge_form-requires-clause-typed
judge_form-requires-clause-typed c =
    let search = c.args.search.now in
    let W = wiring_of search.wired.now in
    let form = c.in-Some.form.now in
    typed_of search.wired.now c.args.kind search.interface c.args.interface.now c.args.row.now form
    c.in-Some-item_form.typed.now c.requires.there c.ids-ids.ensures.formed c.requires.row
    (sym c.in-Some.ensures)
    (c.in-Some-item_form.ensures
    ∙ ap (λ id. find (has_id id) (item_forms W c.item_of-item.result)) c.id.ensures
    ∙ ap (λ item. find (has_id form.id) (item_forms W item)) c.item_of-item.ensures)

-- and there is one
pub returns-in-None : goal.returns-in-None
returns-in-None c =
    let search = c.args.search.now in
    let W = wiring_of search.wired.now in
    let form = c.in-Some.form.now in
    absurd (typed_there search.wired.now c.args.kind search.interface c.args.interface.now
    c.args.row.now form c.requires.there c.ids-ids.ensures.formed c.requires.row
    (sym c.in-Some.ensures)
    (c.in-None.ensures
    ∙ ap (λ id. find (has_id id) (item_forms W c.item_of-item.result)) c.id.ensures
    ∙ ap (λ item. find (has_id form.id) (item_forms W item)) c.item_of-item.ensures))
