use Rattle.std.proofs.Common.{◌≡◌, arith, sym, ◌∙◌}
use Rattle.mrc_wiring.proofs.Classes.{kernel_label, births_label}
use Rattle.mrc_wiring.proofs.wired.Wired.label.Goals as goal

-- a kernel port accepts nothing
pub returns-then-class-births : goal.returns-then-class-births
returns-then-class-births c =
    let class : c.class.inside.0 ≡ c.args.class = c.class.view_is in
    let ports = c.ports-ports.ensures.exact in
    let tasks = c.tasks.ensures.exact in
    let high = c.if-class-ports.false in
    let low = c.if-class-births.true in
    sym (kernel_label c.args.self.now c.args.class c.tasks.ensures.kept (omega arith) (omega arith))

-- births accept what their line says
pub returns-else-class-births : goal.returns-else-class-births
returns-else-class-births c =
    let class : c.class.inside.0 ≡ c.args.class = c.class.view_is in
    let ports = c.ports-ports.ensures.exact in
    let tasks = c.tasks.ensures.exact in
    let high = c.if-class-births.false in
    c.births_label.ensures
    ∙ sym (births_label c.args.self.now c.args.class _ c.tasks.ensures.kept (omega arith))
