-- Step. What the end of a task changes. From Mach 3 Kernel Interfaces, task_terminate.
use Rattle.std.specs.Prelude.{ℕ, false, Option, Some, None}
use Rattle.mrc_model.specs.Map.{insert}
use Rattle.mrc_model.specs.World.{Task, World}

-- the task is no longer alive; nothing where it is absent
abbrev pub with_end : World → ℕ → Option Task → World
with_end w u None = w
with_end w u (Some x) = record w { tasks = insert w.tasks u (record x { alive = false }) }
