-- Believe. Ending a task. From Mach 3 Kernel Interfaces, task_terminate.
use Rattle.std.specs.Prelude.{ℕ, false, Ok}
use Rattle.mrc_model.specs.declared.Code.TheVariants.{KernInvalidArgument}
use Rattle.mrc_model.specs.Map.{get, insert}
use Rattle.mrc_model.specs.World.{Task, World}
use Rattle.mrc_model.specs.Reply.{Reply, Done, Refused, Try, ◌>>=◌, or_refuse}
use Rattle.mrc_model.specs.Destroyed.{TaskOf, destroyed}
use Rattle.mrc_model.specs.Target.{target}

-- the task is no longer alive, its entries go with all their rights, and its kernel port dies
abbrev pub ended : World → ℕ → Task → World
ended w u x = record {
  tasks = insert w.tasks u (record x { alive = false });
  store = destroyed w.store (TaskOf u x.kernel);
}

-- u ends
unfoldable pub call_terminate : World → ℕ → ℕ → Try (World × Reply)
call_terminate w t task = do
  u ← target w t task KernInvalidArgument
  x ← or_refuse (get w.tasks u) (Refused KernInvalidArgument)
  Ok (ended w u x, Done)
