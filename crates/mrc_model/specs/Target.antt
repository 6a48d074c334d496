-- Believe. What calls have in common. What the calls have in common: the names that stand for no
-- entry, the task that a call acts on, and its entries. From Mach 3 Kernel Interfaces: a send right
-- to a task's kernel port lets its holder make port calls on that task.
use Rattle.std.specs.Prelude.{ℕ, Bool, false, ◌&&◌, ◌||◌, List, [], ◌∷◌, Option, Some, None, ◌==◌}
use Rattle.std.specs.Prelude.{nat_lt, if◌then◌else◌}
use Rattle.mrc_model.specs.declared.Entry.{Entry}
use Rattle.mrc_model.specs.declared.Entry.TheVariants.{Receive as ReceiveEntry, Send as SendEntry}
use Rattle.mrc_model.specs.declared.Entry.TheVariants.{SendOnce as OnceEntry, PortSet as SetEntry}
use Rattle.mrc_model.specs.declared.Entry.TheVariants.{DeadName as DeadEntry}
use Rattle.mrc_model.specs.declared.Code.{Code}
use Rattle.mrc_model.specs.declared.Code.TheVariants.{KernInvalidName, KernInvalidRight}
use Rattle.mrc_model.specs.Map.{get}
use Rattle.mrc_model.specs.World.{Space, Store, Task, World, space, set_space, port_null, port_dead}
use Rattle.mrc_model.specs.Reply.{Try, Reply, Refused, or_refuse}

-- MACH_PORT_NULL and MACH_PORT_DEAD stand for no entry
abbrev pub is_reserved : ℕ → Bool
is_reserved n = n == port_null || n == port_dead

-- the world with this store
abbrev pub with_store : World → Store → World
with_store w s = record w { store = s }

-- the world with this space of t
abbrev pub with_space : World → ℕ → Space → World
with_space w t x = with_store w (set_space w.store t x)

-- the task is there, and alive
abbrev pub is_alive : Option Task → Bool
is_alive None = false
is_alive (Some x) = x.alive

-- p is the kernel port of this task, which is alive
abbrev pub has_kernel : ℕ → Task → Bool
has_kernel p x = x.alive && x.kernel == p

-- the first of these tasks whose kernel port is p
abbrev pub first_task : ℕ → List (ℕ × Task) → Option ℕ
first_task p [] = None
first_task p (e ∷ es) = if has_kernel p e.1 then Some e.0 else first_task p es

-- the port of a send right
abbrev pub kernel_right : Option Entry → Option ℕ
kernel_right None = None
kernel_right (Some (ReceiveEntry p k i)) = if nat_lt 0 k then Some p else None
kernel_right (Some (SendEntry p k)) = Some p
kernel_right (Some (OnceEntry p)) = None
kernel_right (Some SetEntry) = None
kernel_right (Some (DeadEntry k)) = None

-- the live task whose kernel port this is
abbrev pub task_of : World → Option ℕ → Option ℕ
task_of w None = None
task_of w (Some p) = first_task p w.tasks.list

-- the live task for whose kernel port the caller has a send right under the name
unfoldable pub target : World → ℕ → ℕ → Code → Try ℕ
target w t n fault = or_refuse (task_of w (kernel_right (get (space w.store t) n))) (Refused fault)

-- the name has no entry
abbrev pub bad_name : Reply
bad_name = Refused KernInvalidName

-- the entry lacks the right
abbrev pub wrong_right : Reply
wrong_right = Refused KernInvalidRight

-- the entry of a name of u
unfoldable pub entry_at : World → ℕ → ℕ → Try Entry
entry_at w u n = or_refuse (get (space w.store u) n) bad_name
