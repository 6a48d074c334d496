-- A journal that goes on by one event, and what is kept of it.
use Rattle.std.proofs.Common.{◌≡◌, ◌<◌, ◌+◌, ℕ, List, [], ◌∷◌, ◌++◌, length, map, ap, sym}
use Rattle.std.proofs.Common.{◌∙◌, IfOk, Ok, Err, Result, arith, length-append}
use Rattle.mrc_check.specs.Verdict.{Case}
use Rattle.mrc_confine.specs.Guards.{Guard, wiring_in}
use Rattle.mrc_live.specs.declared.event.Event.{Event}
use Rattle.mrc_live.specs.Runs.{event_of, IsJournal, reply_to, world_after}
use Rattle.mrc_live.specs.Desks.{IsKept}
use Rattle.mrc_machine.specs.Calls.{call_of, reply_of}
use Rattle.mrc_machine.specs.declared.call.Call.{Call}
use Rattle.mrc_model.specs.First.{first}
use Rattle.mrc_model.specs.Reply as model
use Rattle.mrc_model.specs.Runs.{Run}
use Rattle.mrc_model.specs.Step.{step}
use Rattle.mrc_model.specs.Wiring.{Wiring}
use Rattle.mrc_model.specs.World.{World}

-- the world that a step leads to, and what it tells, where it has an answer
pub world_is : {R E : Type 0} (told : R → model.Reply) (answer : Result R E)
    → (case : Case) (w v : World) (task : ℕ) (call : Call)
    → IfOk answer (λ r. step (wiring_in case) w task (call_of call) ≡ (v, told r))
    → IfOk answer (λ _. v ≡ world_after case w task call)
unfolding world_after
world_is told (Ok r) case w v task call is = sym (ap (λ (end : World × model.Reply). end.0) is)
world_is told (Err e) case w v task call is = is

pub reply_is : {R E : Type 0} (told : R → model.Reply) (answer : Result R E)
    → (case : Case) (w v : World) (task : ℕ) (call : Call)
    → IfOk answer (λ r. step (wiring_in case) w task (call_of call) ≡ (v, told r))
    → IfOk answer (λ r. told r ≡ reply_to case w task call)
unfolding reply_to
reply_is told (Ok r) case w v task call is = sym (ap (λ (end : World × model.Reply). end.1) is)
reply_is told (Err e) case w v task call is = is

-- one step more
run_more : (W : Wiring) (v w : World) (es : List Event) (e : Event)
    → Run W v (map event_of es) w → (step W w e.task (call_of e.call)).1 ≡ reply_of e.reply
    → Run W v (map event_of (es ++ e ∷ [])) (step W w e.task (call_of e.call)).0
run_more W v w [] e run told = (
  ap (λ (u : World). (step W u e.task (call_of e.call)).1) run ∙ told,
  ap (λ (u : World). (step W u e.task (call_of e.call)).0) run,
)
run_more W v w (x ∷ es) e run told =
    (run.0, run_more W (step W v x.task (call_of x.call)).0 w es e run.1 told)

journal_more : (case : Case) (w : World) (es : List Event) (e : Event)
    → IsJournal case es w → reply_of e.reply ≡ reply_to case w e.task e.call
    → IsJournal case (es ++ e ∷ []) (world_after case w e.task e.call)
unfolding world_after reply_to
journal_more case w es e run told =
    run_more (wiring_in case) (first (wiring_in case)) w es e run (sym told)

-- what is kept is kept by a step with its event
pub kept_more : (g h : Guard) (es fs : List Event) (limit made total more left : ℕ) (e : Event)
    → IsKept g es limit made total left → length es < limit
    → h.confined ≡ g.confined → h.world ≡ world_after g.confined g.world e.task e.call
    → reply_of e.reply ≡ reply_to g.confined g.world e.task e.call
    → fs ≡ es ++ e ∷ [] → more ≡ total + 1
    → IsKept h fs limit made more left
kept_more g h es fs limit made total more left e kept below same after told longer one_more =
    let len : length fs ≡ length es + 1 = ap length longer ∙ length-append es (e ∷ []) in
    record {
      run =
          rw (same, after, longer)
          (journal_more g.confined g.world es e kept.run told);
      few = omega (arith, len, below);
      limited = kept.limited;
      counted = omega (arith, len, one_more, kept.counted);
      seats = kept.seats;
      parts = kept.parts;
    }
