use Rattle.std.proofs.Common.{◌≡◌, ◌≤◌, ◌+◌, ap, arith, ◌∙◌, length}
use Rattle.std.specs.Prelude.{◌&&◌, nat_lt}
use Rattle.std.specs.List.{list_any}
use Rattle.mrc_bits.specs.Bits.{is_set}
use Rattle.mrc_model.specs.Wiring.{is_trust_of, trusts_by}
use Rattle.mrc_wiring.specs.Table.{Table, wiring_of}
use Rattle.mrc_wiring.specs.Trusting.{trust_row, right_place, limit_of_classes}
use Rattle.mrc_wiring.specs.Marks.{words_at}
use Rattle.mrc_wiring.proofs.BirthLaws.{few_births}
use Rattle.mrc_wiring.proofs.TrustLaws.{row_limits, row_names}
use Rattle.mrc_wiring.proofs.wired.Wired.trusting_row.Goals as goal

-- the row that is read is that of the verb and the task
read : (c : goal.After-words_at) → c.words_at.result.now
    ≡ words_at c.self.inside.trusting.items (trust_row c.args.verb c.args.task)
read c =
    c.words_at.ensures
    ∙ (ap (λ rows. words_at rows c.trust_row.result) c.as_slice.ensures.value
    ∙ ap (words_at c.self.inside.trusting.items)
    (c.trust_row.ensures ∙ ap (trust_row c.args.verb) c.task.view_is))

-- there are no more classes than the part of a right has room for
few : (c : goal.After-words_at) → length c.self.inside.ports
    + length c.self.inside.names + length c.self.inside.births.items ≤ limit_of_classes
few c =
    let w = c.self.inside in
    let table = c.self.invariant.0 in
    let births = few_births (length w.names) w.births.items table.births c.self.invariant.3 in
    let tasks = table.few_tasks in
    let ports = table.few_ports in
    omega (arith, births, tasks, ports)

pub returns-clause-limited : goal.returns-clause-limited
returns-clause-limited c =
    let w = c.self.inside in
    ap (λ words. nat_lt 0 (length words)) (read c)
    ∙ (row_limits (length w.ports) (length w.names) w.births.items (few c)
    w.trusts.items w.trusting.items c.self.invariant.5 c.args.verb c.args.task
    ∙ ap (λ (T : Table). list_any (is_trust_of c.args.verb c.args.task) (wiring_of T).trusted)
    c.self.view_is)

pub returns-clause-named : goal.returns-clause-named
returns-clause-named c = λ right class.
    let w = c.self.inside in
    ap (λ words. nat_lt class limit_of_classes && is_set words (right_place right class)) (read c)
    ∙ (row_names (length w.ports) (length w.names) w.births.items (few c)
    w.trusts.items w.trusting.items c.self.invariant.5 c.args.verb c.args.task class right
    ∙ ap (λ (T : Table). list_any (trusts_by c.args.verb c.args.task right class)
    (wiring_of T).trusted) c.self.view_is)
