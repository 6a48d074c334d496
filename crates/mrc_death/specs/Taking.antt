-- Believe. What a call destroys, as code has it. What a call destroys, as code has it, in the
-- definitions' words.
use Rattle.std.specs.Prelude.{◌≡◌, Option, Some, None}
use Rattle.mrc_model.specs.World.{Store}
use Rattle.mrc_model.specs.Destroyed.{Destroyed as TDestroyed, ReceiveOf, EntryOf, TaskOf, TakenOut}
use Rattle.mrc_death.specs.Removing.{CanRemove, removed_from}
use Rattle.mrc_death.specs.declared.taking.Destroyed.{Destroyed}
use Rattle.mrc_death.specs.declared.taking.Taken.{Taken}
use Rattle.mrc_death.specs.declared.taking.Destroyed.TheVariants.{Receive, Entry as WholeEntry}
use Rattle.mrc_death.specs.declared.taking.Destroyed.TheVariants.{Task}

-- what is destroyed
abbrev pub destroyed_of : Destroyed → TDestroyed
destroyed_of (Receive task name) = ReceiveOf task name
destroyed_of (WholeEntry task name) = EntryOf task name
destroyed_of (Task task kernel) = TaskOf task kernel

-- what is taken out of a task's space: nothing if nothing is there. It is removed from the space
-- without memory.
abbrev pub AreTaken : Store → Option Taken → Option TakenOut → Type 0
AreTaken s None out = out ≡ None
AreTaken s (Some t) out =
    CanRemove s t.task t.removal
    × (out ≡ Some (record { store = removed_from s t.task t.removal; doomed = t.doomed }))
