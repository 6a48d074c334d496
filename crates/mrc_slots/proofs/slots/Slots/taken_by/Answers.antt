use Rattle.std.proofs.Common.{ap, ◌∙◌}
use Rattle.mrc_bits.specs.Bits.{is_set}
use Rattle.mrc_wiring.specs.Table.{wiring_of}
use Rattle.mrc_slots.specs.Passing.{is_passed}
use Rattle.mrc_slots.proofs.Marked.{taken_bit, row_is}
use Rattle.mrc_slots.proofs.slots.Slots.taken_by.Goals as goal

pub returns-clause-taken : goal.returns-clause-taken
returns-clause-taken c = λ d.
    let slots = c.self.inside in
    ap (λ ws. is_set ws d)
    (row_is _ slots.taken.items _ _ _ c.row_at.ensures c.as_slice.ensures.value
    c.row_number.ensures)
    ∙ (taken_bit (wiring_of slots.wired) slots.taken.items c.self.invariant.taken c.args.to d
    c.args.held c.args.give
    ∙ ap (λ T. is_passed (wiring_of T) c.args.to d c.args.held c.args.give) c.self.view_is)
