-- What a step comes to, from what the call tells; that spaces stay spaces, and a well formed world
-- well formed.
use Rattle.std.proofs.Common.{◌≡◌, ℕ, Bool, true, false, Ok, Err, refl, sym, ap, ◌∙◌, subst}
use Rattle.mrc_base.specs.declared.Fact.{Fact}
use Rattle.mrc_cover.proofs.Rights.{Known-more}
use Rattle.mrc_model.specs.Map.{get}
use Rattle.mrc_model.specs.Rules.{Has}
use Rattle.mrc_model.specs.Wiring.{Wiring, numbers_of}
use Rattle.mrc_model.specs.World.{World, space}
use Rattle.mrc_model.specs.Reply.{Reply, DeadTask, Call}
use Rattle.mrc_model.specs.Space.{IsSpace}
use Rattle.mrc_model.specs.Target.{is_alive}
use Rattle.mrc_model.specs.Step.{step, try_call}
use Rattle.mrc_model.specs.Covers.{Covers, HasSpaces, IsWellFormed}
use Rattle.mrc_model.specs.Headline.{StepIsCovered}
use Rattle.mrc_model.specs.First.{First, first, built, world_of}
use Rattle.mrc_model.proofs.KeptCalls.{step_kept, first_kept}

module _ (W : Wiring) (w : World) (t : ℕ) (call : Call) where
  pub step_dead : is_alive (get w.tasks t) ≡ false → step W w t call ≡ (w, DeadTask)
  unfolding step
  step_dead dead = rw dead refl

  module _ (alive : is_alive (get w.tasks t) ≡ true) where
    pub step_done : (z : World) (reply : Reply)
        → try_call W w t call ≡ Ok (z, reply)
        → step W w t call ≡ (z, reply)
    unfolding step
    step_done z reply is = rw (alive, is) refl

    pub step_refused : (e : Reply) → try_call W w t call ≡ Err e → step W w t call ≡ (w, e)
    unfolding step
    step_refused e is = rw (alive, is) refl

  -- spaces stay spaces
  pub spaces_after : (z : World) (reply : Reply)
      → step W w t call ≡ (z, reply)
      → HasSpaces w
      → HasSpaces z
  spaces_after z reply is all u =
      subst (λ (r : World × Reply). IsSpace (space r.0.store u)) is
      ((step_kept W w t call record { of = all }).of u)

-- the set of all facts, which is closed, covers each world in which all that is named is live
abbrev every : Fact → Bool
every f = true

every_covers : (w : World) → Covers (λ f. Unit {0}) w → Covers (Has every) w
every_covers w live = record {
  store = record {
    held = λ t n e is. Known-more (λ c r known. refl) (live.store.held t n e is);
    carried = λ q x is. Known-more (λ c r known. refl) (live.store.carried q x is);
    backups = λ p x is. record {
      live = λ q e. let b = (live.store.backups p x is).live q e in (b.0, b.1, refl);
    };
  };
  kernels = λ t x at alive. let k = live.kernels t x at alive in (k.0, k.1, refl);
}

-- a well formed world stays well formed
pub formed_after : StepIsCovered → (W : Wiring) (w z : World) (t : ℕ) (call : Call) (reply : Reply)
    → step W w t call ≡ (z, reply)
    → IsWellFormed (numbers_of W) w
    → IsWellFormed (numbers_of W) z
formed_after law W w z t call reply is formed =
    subst (λ (s : World × Reply). IsWellFormed (numbers_of W) s.0) is
    (law W every (λ k premises f rule known range. refl) w t call formed
    (every_covers w formed.live)).0

-- the first state

pub first_is : (W : Wiring) (f : First) (w : World)
    → built W ≡ Ok f
    → w ≡ f.world
    → w ≡ first W
unfolding first
first_is W f w is world = world ∙ ap world_of (sym is)

pub first_spaces : (W : Wiring) (w : World) → w ≡ first W → HasSpaces w
first_spaces W w is t =
    subst (λ (v : World). IsSpace (space v.store t)) (sym is) ((first_kept W).of t)
