-- Step. The first state, line by line. What is kept while the first state of a wiring is made, line
-- by line, and the changes that lines make. This profile's own choice.
use Rattle.std.specs.Prelude.{◌≡◌, ℕ, ◌+◌, ◌<◌, ◌≤◌, IsSome, Ok, Err}
use Rattle.mrc_base.specs.declared.memory.OrMemory.{OrMemory}
use Rattle.mrc_base.specs.declared.memory.OrMemory.TheVariants.{Fault, Memory}
use Rattle.mrc_model.specs.declared.Code.{Code}
use Rattle.mrc_base.specs.Limits.{limit_of_tasks, limit_of_wired_ports}
use Rattle.mrc_base.specs.declared.PortRight.{PortRight}
use Rattle.mrc_model.specs.Map.{get, len, next_key}
use Rattle.mrc_model.specs.World.{World, space}
use Rattle.mrc_model.specs.Reply.{Try, Refused, ◌>>=◌}
use Rattle.mrc_model.specs.Target.{with_space}
use Rattle.mrc_model.specs.First.{First}
use Rattle.mrc_names.specs.Takes.{give_right}

-- each number below that of the task lines is a task's, the next one is free, and there were as
-- many births as task lines and port lines
pub record IsStart (f : First) : Type 0 where
  pub tasks : (t : ℕ) → t < f.tasks → IsSome (get f.world.tasks t)
  pub next : next_key f.world.tasks ≡ f.tasks
  pub births : f.world.store.next ≡ f.tasks + f.ports
  pub few : len f.world.store.ports ≤ f.tasks + f.ports
  pub few_tasks : f.tasks ≤ limit_of_tasks
  pub few_ports : f.ports ≤ limit_of_wired_ports

-- the world after a task was given a right; refused where its space would have too many entries
unfoldable pub with_right : World → ℕ → ℕ → PortRight → Try World
with_right w t p right = do
  got ← give_right (space w.store t) p right
  Ok (with_space w t got.0)

-- a fault of code is the definition's refusal; of want of memory nothing is said, since of the
-- lines that are left one might be refused
abbrev pub IsFaultOf : {A : Type 0} → OrMemory Code → Try A → Type 0
IsFaultOf (Fault code) m = m ≡ Err (Refused code)
IsFaultOf Memory m = Unit {0}
