use Rattle.std.proofs.Common.{ap, subst, sym, ◌∙◌, ◌≤◌, length}
use Rattle.mrc_bits.specs.Bits.{is_set}
use Rattle.mrc_wiring.specs.Table.{wiring_of}
use Rattle.mrc_slots.specs.Masks.{replier_words}
use Rattle.mrc_slots.specs.Passing.{is_replier}
use Rattle.mrc_slots.proofs.ReplyPorts.{replier_bit, replier_few}
use Rattle.mrc_slots.proofs.slots.Slots.repliers.Goals as goal

pub returns-clause-shown : goal.returns-clause-shown
returns-clause-shown c = λ d.
    let slots = c.self.inside in
    ap (λ ws. is_set ws d) (c.row.ensures
    ∙ ap (λ ws. replier_words slots.repliers ws c.args.to) c.as_slice.ensures.value)
    ∙ (replier_bit (wiring_of slots.wired) slots.all.items c.self.invariant.all c.args.to
    slots.repliers c.self.invariant.repliers_are d
    ∙ ap (λ T. is_replier (wiring_of T) c.args.to d) c.self.view_is)

pub returns-clause-few : goal.returns-clause-few
returns-clause-few c =
    let slots = c.self.inside in
    subst (λ ws. length ws ≤ 21) (sym (c.row.ensures
    ∙ ap (λ ws. replier_words slots.repliers ws c.args.to) c.as_slice.ensures.value))
    (replier_few (wiring_of slots.wired) slots.all.items c.self.invariant.all c.args.to
    slots.repliers c.self.invariant.repliers_are)
