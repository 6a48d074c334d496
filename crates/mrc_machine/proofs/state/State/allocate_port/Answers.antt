use Rattle.std.proofs.Common.{refl, ◌≡◌, ℕ, Option, sym, ap, ◌∙◌}
use Rattle.mrc_model.specs.Wiring.{births_class}
use Rattle.mrc_model.specs.World.{World, task_class}
use Rattle.mrc_model.specs.Space.{is_full}
use Rattle.mrc_wiring.specs.Table.{Table, wiring_of}
use Rattle.mrc_names.proofs.Granting.{granted, wanting}
use Rattle.mrc_machine.proofs.AllocateLaws.{port_no_class, port_full, port_short, port_born}
use Rattle.mrc_machine.proofs.state.State.allocate_port.Goals as goal

-- the class that code found
class_is : (table : Table) (w : World) (u kind t : ℕ) (o found : Option ℕ)
    → t ≡ task_class w u
    → found ≡ births_class (wiring_of table) t kind
    → found ≡ o
    → births_class (wiring_of table) (task_class w u) kind ≡ o
class_is table w u kind t o found task at is =
    ap (λ v. births_class (wiring_of table) v kind) (sym task) ∙ sym at ∙ is

pub returns-in_default-clause-refused : goal.returns-in_default-clause-refused
returns-in_default-clause-refused c =
    port_no_class c.args.self.now c.args.task _
    (class_is c.args.wired.now c.args.self.now c.args.task c.args.kind _ _ _ c.task_class.ensures
    c.births_class.ensures c.in_default.is)

pub returns-then-is_full-clause-refused : goal.returns-then-is_full-clause-refused
returns-then-is_full-clause-refused c =
    port_full c.args.self.now c.args.task _ c.in-Some.class
    (class_is c.args.wired.now c.args.self.now c.args.task c.args.kind _ _ _ c.task_class.ensures
    c.births_class.ensures c.in-Some.is)
    (ap is_full (sym c.space.ensures) ∙ sym c.is_full.ensures ∙ c.if-is_full.true)

pub returns-then-is_short-clause-refused : goal.returns-then-is_short-clause-refused
returns-then-is_short-clause-refused c =
    port_short c.args.self.now c.args.task _ c.in-Some.class
    (class_is c.args.wired.now c.args.self.now c.args.task c.args.kind _ _ _ c.task_class.ensures
    c.births_class.ensures c.in-Some.is)
    (ap is_full (sym c.space.ensures) ∙ sym c.is_full.ensures ∙ c.if-is_full.false)
    (sym c.is_short.ensures ∙ c.if-is_short.true)

pub returns-clause-ok : goal.returns-clause-ok
returns-clause-ok c =
    port_born c.args.self.now c.args.task _ c.in-Some.class c.in_ok-name.name _
    (class_is c.args.wired.now c.args.self.now c.args.task c.args.kind _ _ _ c.task_class.ensures
    c.births_class.ensures c.in-Some.is)
    (ap is_full (sym c.space.ensures) ∙ sym c.is_full.ensures ∙ c.if-is_full.false)
    (sym c.is_short.ensures ∙ c.if-is_short.false) c.in_ok-name.ensures.ok c.in_ok-name.ensures.name

pub returns-in_err-name-clause-refused : goal.returns-in_err-name-clause-refused
returns-in_err-name-clause-refused c =
    wanting c.from_residual.result _ c.from_residual.ensures.1
    (granted _ _ (port_born c.args.self.now c.args.task _ c.in-Some.class _ _
    (class_is c.args.wired.now c.args.self.now c.args.task c.args.kind _ _ _ c.task_class.ensures
    c.births_class.ensures c.in-Some.is)
    (ap is_full (sym c.space.ensures) ∙ sym c.is_full.ensures ∙ c.if-is_full.false)
    (sym c.is_short.ensures ∙ c.if-is_short.false) refl refl))
