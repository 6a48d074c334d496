use Rattle.std.proofs.Common.{ap, sym, ◌∙◌}
use Rattle.mrc_model.specs.Wiring.{form_shapes}
use Rattle.mrc_wiring.specs.Finding.{sort_at}
use Rattle.mrc_wiring.specs.Sorts.{sorts_of}
use Rattle.mrc_wiring.proofs.FormSorts.{typed_sort}
use Rattle.mrc_dead.proofs.slots.judge_argument.Goals as goal

-- the number of the argument's type is that of the slot's
pub is_dead_slot-is_dead-requires-clause-sort : goal.is_dead_slot-is_dead-requires-clause-sort
is_dead_slot-is_dead-requires-clause-sort c =
    let search = c.args.search.now in
    c.sort.ensures
    ∙ (ap (λ t. sort_at (form_shapes t) c.args.place) c.requires.typed
    ∙ typed_sort c.args.kind (sorts_of search.wired.now.interfaces) search.interface c.args.place
    c.args.form.now c.in-Some.slot.now c.requires.within (sym c.in-Some.ensures))
