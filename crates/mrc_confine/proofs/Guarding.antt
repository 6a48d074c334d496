-- The first world of an accepted case is guarded, and each call keeps it so.
use Rattle.std.proofs.Common.{◌≡◌, ◌<◌, IfOk, IsTrue, OnErr, Result, Ok, Err, Option, Some, None}
use Rattle.std.proofs.Common.{refl, subst, sym, ℕ}
use Rattle.std.specs.Prelude.{IsSome}
use Rattle.mrc_check.specs.Verdict.{Case, IsAccepted}
use Rattle.mrc_facts.specs.Sets.{has}
use Rattle.mrc_confine.specs.Guards.{IsGuarded, wiring_in}
use Rattle.mrc_cover.proofs.Laws.{covered_is_safe, first_is_covered, step_is_covered}
use Rattle.mrc_model.specs.Covers.{Covers, IsWellFormed}
use Rattle.mrc_model.specs.First.{first, is_sound}
use Rattle.mrc_model.specs.Map.{get}
use Rattle.mrc_model.specs.Reply.{Call, Reply}
use Rattle.mrc_model.specs.Rules.{Has}
use Rattle.mrc_model.specs.Step.{step}
use Rattle.mrc_model.specs.Wiring.{numbers_of}
use Rattle.mrc_model.specs.World.{Task, World}
use Rattle.mrc_model.proofs.KeptTasks.{tasks_are_kept}
use Rattle.mrc_wiring.specs.Claims.{policy_of}

-- the world has all tasks of the wiring
pub record HasWired (case : Case) (w : World) : Type 0 where
  pub of : (t : ℕ) → t < (wiring_in case).tasks → IsSome (get w.tasks t)

-- a task stays, ended or not
task_stays : (case : Case) (w : World) (t : ℕ) (call : Call) (u : ℕ) → IsSome (get w.tasks u)
    → IsSome (get (step (wiring_in case) w t call).0.tasks u)
task_stays case w t call u has = go (get w.tasks u) refl has
  where
    go : (o : Option Task) → get w.tasks u ≡ o → IsSome o
        → IsSome (get (step (wiring_in case) w t call).0.tasks u)
    go None at has = cc
    go (Some x) at has =
        subst (λ o. IsSome o) (sym (tasks_are_kept (wiring_in case) w t call u x at).1) refl

-- a well formed world that the draft's facts cover has no breach
covered_is_guarded : (case : Case) → IsAccepted case.claim case.draft → (w : World)
    → IsWellFormed (numbers_of (wiring_in case)) w → Covers (Has (has case.draft.facts)) w
    → HasWired case w → IsGuarded case w
covered_is_guarded case accepted w formed covered wired = record {
  well_formed = formed;
  covered = covered;
  wired = wired.of;
  safe =
      covered_is_safe (wiring_in case) (has case.draft.facts) accepted.yes.closed
      (policy_of case.claim) accepted.yes.allowed w formed covered;
}

-- the first world
pub first_is_guarded : (case : Case) → IsTrue (is_sound (wiring_in case))
    → IsAccepted case.claim case.draft → HasWired case (first (wiring_in case))
    → IsGuarded case (first (wiring_in case))
first_is_guarded case sound accepted wired =
    let begin = first_is_covered (wiring_in case) sound in
    covered_is_guarded case accepted (first (wiring_in case)) begin.0
    (begin.1 (has case.draft.facts) accepted.yes.closed) wired

-- each further one
step_is_guarded : (case : Case) → IsAccepted case.claim case.draft
    → (w : World) (t : ℕ) (call : Call) → IsGuarded case w
    → IsGuarded case (step (wiring_in case) w t call).0
step_is_guarded case accepted w t call guarded =
    let next =
    step_is_covered (wiring_in case) (has case.draft.facts) accepted.yes.closed w t call
    guarded.well_formed guarded.covered in
    covered_is_guarded case accepted (step (wiring_in case) w t call).0 next.0 next.1
    record { of = λ u low. task_stays case w t call u (guarded.wired u low) }

-- and so what a step answers, whether or not memory ran out
pub answer_is_guarded : {R E : Type 0} (case : Case) → IsAccepted case.claim case.draft
    → (v w : World) (t : ℕ) (call : Call) (told : R → Reply) (answer : Result R E)
    → IfOk answer (λ reply. step (wiring_in case) v t call ≡ (w, told reply))
    → OnErr answer (w ≡ v) → IsGuarded case v → IsGuarded case w
answer_is_guarded case accepted v w t call told (Ok reply) is same guarded =
    subst (λ (end : World × Reply). IsGuarded case end.0) is
    (step_is_guarded case accepted v t call guarded)
answer_is_guarded case accepted v w t call told (Err e) is same guarded =
    subst (λ (end : World). IsGuarded case end) (sym same) guarded
