-- Step. What leaves a task's space. A step of the proof.
use Rattle.std.specs.Prelude.{ℕ, ⊤, Option, Some, None}
use Rattle.mrc_model.specs.Map.{Map, empty, get, insert}
use Rattle.mrc_model.specs.World.{Space, Store, space}
use Rattle.mrc_model.specs.Space.{put_entry}
use Rattle.mrc_index.specs.Undo.{CanPut}
use Rattle.mrc_names.specs.Changes.{without}
use Rattle.mrc_death.specs.declared.removal.Removal.{Removal}
use Rattle.mrc_death.specs.declared.removal.Removal.TheVariants.{Receive, Name, All}

-- the space without it
abbrev pub removed : Removal → Space → Space
removed (Receive n rest) x = put_entry x n rest
removed (Name n) x = without x n (get x n)
removed All x = empty

-- it can be removed from the space without memory
abbrev pub CanBeRemoved : Removal → Space → Type 0
CanBeRemoved (Receive n rest) x = CanPut x n rest
CanBeRemoved (Name n) x = ⊤
CanBeRemoved All x = ⊤

-- the spaces without it in the task's, if the task has one
abbrev pub left_in : Map Space → ℕ → Removal → Option Space → Map Space
left_in m t r None = m
left_in m t r (Some x) = insert m t (removed r x)

-- the store without it in the task's space, if the task has one
abbrev pub removed_from : Store → ℕ → Removal → Store
removed_from s t r = record s { spaces = left_in s.spaces t r (get s.spaces t) }

-- it can be removed from the task's space without memory
abbrev pub CanRemove : Store → ℕ → Removal → Type 0
CanRemove s t r = CanBeRemoved r (space s t)
