use Rattle.std.proofs.Common.{◌∙◌, ◌<◌, ℕ, ap, subst, sym, IsTrue}
use Rattle.std.specs.Prelude.{IsSome}
use Rattle.mrc_model.specs.First.{first, is_sound}
use Rattle.mrc_model.specs.Map.{get}
use Rattle.mrc_model.specs.World.{World}
use Rattle.mrc_wiring.specs.Table.{Table, wiring_of}
use Rattle.mrc_wiring.proofs.AllTasks.{all_tasks}
use Rattle.mrc_confine.specs.Guards.{IsGuarded}
use Rattle.mrc_confine.proofs.Guarding.{first_is_guarded}
use Rattle.mrc_confine.proofs.Safe.{accepted_safe}
use Rattle.mrc_confine.proofs.guarded.Guarded.start.Goals as goal

-- a wiring keeps in its type that no line is refused, and how many task lines it has
pub invariant_of-result : goal.invariant_of-result
invariant_of-result c =
    let case = c.args.confined in
    let sound =
    subst (λ (table : Table). IsTrue (is_sound (wiring_of table))) c.wired.ensures.exact
    c.tasks-tasks.ensures.sound in
    let wired : (t : ℕ) → t < (wiring_of case.claim.table).tasks
    → IsSome (get (first (wiring_of case.claim.table)).tasks t) =
    subst (λ (table : Table). (t : ℕ) → t < (wiring_of table).tasks
    → IsSome (get (first (wiring_of table)).tasks t)) c.wired.ensures.exact
    (all_tasks _ c.tasks-tasks.ensures.kept) in
    let is_first =
    c.in-Ok.ensures.exact
    ∙ ap (λ (table : Table). first (wiring_of table)) c.wired-2.ensures.exact in
    subst (λ (w : World). IsGuarded case w) (sym is_first)
    (first_is_guarded case sound c.wired.ensures.kept record { of = wired })

pub returns-in-Ok-clause-safe : goal.returns-in-Ok-clause-safe
returns-in-Ok-clause-safe c =
    let case = c.args.confined in
    let sound =
    subst (λ (table : Table). IsTrue (is_sound (wiring_of table))) c.wired.ensures.exact
    c.tasks-tasks.ensures.sound in
    accepted_safe case.claim case.draft sound c.wired.ensures.kept

pub returns-in-Err-clause-safe : goal.returns-in-Err-clause-safe
returns-in-Err-clause-safe c =
    let case = c.args.confined in
    let sound =
    subst (λ (table : Table). IsTrue (is_sound (wiring_of table))) c.wired.ensures.exact
    c.tasks-tasks.ensures.sound in
    accepted_safe case.claim case.draft sound c.wired.ensures.kept
