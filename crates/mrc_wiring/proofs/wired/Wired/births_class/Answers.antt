use Rattle.std.proofs.Common.{ℕ, sym, ap, ◌∙◌, arith}
use Rattle.std.specs.Prelude.{position}
use Rattle.mrc_model.specs.Wiring.{births_class}
use Rattle.mrc_wiring.specs.Births.{is_row}
use Rattle.mrc_wiring.specs.Table.{wiring_of}
use Rattle.mrc_wiring.proofs.BirthLaws.{no_class, class_at}
use Rattle.mrc_wiring.proofs.wired.Wired.births_class.Goals as goal

pub returns-in_err-row : goal.returns-in_err-row
returns-in_err-row c =
    let is = c.row_of.ensures.exact ∙ ap (position (is_row c.task.inside.0 c.args.kind))
    c.births.ensures.exact in
    c.from_residual.ensures
    ∙ sym (no_class c.args.self.now c.task.inside.0 c.args.kind c.row_of.result is c.in_err-row.was)
    ∙ ap (λ (t : ℕ). births_class (wiring_of c.args.self.now) t c.args.kind) c.task.view_is

pub returns : goal.returns
returns c =
    let ports = c.ports.ensures.exact in
    let tasks = c.tasks.ensures.exact in
    let is = c.row_of.ensures.exact ∙ ap (position (is_row c.task.inside.0 c.args.kind))
    c.births.ensures.exact in
    sym (class_at c.args.self.now c.task.inside.0 c.args.kind c.in_ok-row.row _ c.row_of.result is
    c.in_ok-row.was (omega arith))
    ∙ ap (λ (t : ℕ). births_class (wiring_of c.args.self.now) t c.args.kind) c.task.view_is
