-- The three laws, and the headline that follows from them.
use Rattle.std.proofs.Common.{Bool, List, [], subst, ◌∷◌}
use Rattle.mrc_base.specs.declared.Fact.{Fact}
use Rattle.mrc_model.proofs.KeptCalls.{first_kept, step_kept}
use Rattle.mrc_model.specs.Covers.{Covers, IsWellFormed}
use Rattle.mrc_model.specs.First.{first}
use Rattle.mrc_model.specs.Headline.{CoveredIsSafe, FirstIsCovered, RunsAreSafe, StepIsCovered}
use Rattle.mrc_model.specs.Rules.{Closed, Has}
use Rattle.mrc_model.specs.Runs.{Event, Run}
use Rattle.mrc_model.specs.Step.{step}
use Rattle.mrc_model.specs.Wiring.{Wiring, numbers_of}
use Rattle.mrc_model.specs.World.{World}
use Rattle.mrc_cover.proofs.Breaches.{no_breach}
use Rattle.mrc_cover.proofs.FirstCovered.{first_covers}
use Rattle.mrc_cover.proofs.FirstLines.{first_keeps}
use Rattle.mrc_cover.proofs.FirstTask.{Any}
use Rattle.mrc_cover.proofs.Obeyed.{Ranged, obeys}
use Rattle.mrc_cover.proofs.Step.{step_keeps}
use Rattle.mrc_cover.proofs.WellFormed.{kept_if_well_formed, kept_is_covered, kept_is_well_formed}

-- the first state
pub first_is_covered : FirstIsCovered
first_is_covered W sound = (
  kept_is_well_formed W Any (first W) (first_kept W).of (first_keeps W sound).0,
  λ set closed. first_covers W sound (Has set) closed,
)

-- each call
pub step_is_covered : StepIsCovered
step_is_covered W set closed w t call formed covered =
    let before = kept_if_well_formed W (Has set) w formed covered in
    let kept = step_keeps W (Ranged W (Has set)) (obeys W (Has set) closed) w t call before in
    let spaces = (step_kept W w t call record { of = formed.spaces }).of in
    let end = (step W w t call).0 in
    (kept_is_well_formed W (Has set) end spaces kept, kept_is_covered W (Has set) end kept)

-- each covered world
pub covered_is_safe : CoveredIsSafe
covered_is_safe W set closed policy allowed w formed covered =
    no_breach W (Has set) closed w (kept_if_well_formed W (Has set) w formed covered) policy allowed

-- a run keeps what each of its calls keeps
run_is_covered : (W : Wiring) (set : Fact → Bool) → Closed W (Has set)
    → (events : List Event) (v w : World) → Run W v events w
    → IsWellFormed (numbers_of W) v × Covers (Has set) v
    → IsWellFormed (numbers_of W) w × Covers (Has set) w
run_is_covered W set closed [] v w same kept =
    subst (λ u. IsWellFormed (numbers_of W) u × Covers (Has set) u) same kept
run_is_covered W set closed (e ∷ es) v w run kept =
    run_is_covered W set closed es (step W v e.task e.call).0 w run.1
    (step_is_covered W set closed v e.task e.call kept.0 kept.1)

-- the headline: each run from the first state, by the three laws
pub runs_are_safe : RunsAreSafe
runs_are_safe W policy set sound says events w run =
    let begin = first_is_covered W sound in
    let end = run_is_covered W set says.closed events (first W) w run
    (begin.0, begin.1 set says.closed) in
    (end.1, covered_is_safe W set says.closed policy says.allowed w end.0 end.1)
