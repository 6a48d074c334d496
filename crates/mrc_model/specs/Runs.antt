-- Believe. Lists of calls that lead from one world to another. This profile's own choice.
use Rattle.std.specs.Prelude.{◌≡◌, ℕ, List, [], ◌∷◌}
use Rattle.mrc_model.specs.Wiring.{Wiring}
use Rattle.mrc_model.specs.World.{World}
use Rattle.mrc_model.specs.Reply.{Reply, Call}
use Rattle.mrc_model.specs.Step.{step}

-- a call of a task, and its reply
pub record Event : Type 0 where
  pub task : ℕ
  pub call : Call
  pub reply : Reply

-- the events lead from one world to another: each is the step of the world that the ones before it
-- lead to
abbrev pub Run : Wiring → World → List Event → World → Type 0
Run W v [] w = v ≡ w
Run W v (e ∷ es) w = ((step W v e.task e.call).1 ≡ e.reply) × Run W (step W v e.task e.call).0 es w
