-- Step. The table of ports. From Mach 3 Kernel Interfaces, "Ports". That numbers never come again
-- is this profile's own choice.
use Rattle.std.specs.Prelude.{ℕ, ◌+◌, ◌<◌, ◌≤◌, Bool, ◌||◌, Option, Some, None, nat_le, length}
use Rattle.mrc_base.specs.Limits.{limit_of_ports, limit_of_births}
use Rattle.mrc_model.specs.CallCreateTask.{limit_of_task_numbers}
use Rattle.mrc_model.specs.Map.{Map, Each, empty, insert, len, next_key}
use Rattle.mrc_map.specs.Entries.{below}
use Rattle.mrc_model.specs.World.{Space, Port, Store}
use Rattle.mrc_model.specs.CallAllocate.{new_port}

-- all live ports, by birth number; `next` is the next birth number
pub record Table : Type 0 where
  pub next : ℕ
  pub ports : Map Port

-- a new port of this class
abbrev pub with_birth : Table → ℕ → Table
with_birth t class = record { next = t.next + 1; ports = insert t.ports t.next (new_port class) }

-- there are as many live ports, or as many births have been, as there may be
abbrev pub is_short : Table → Bool
is_short t = nat_le limit_of_ports (len t.ports) || nat_le limit_of_births t.next

-- the table with this port
abbrev pub with_port : Table → ℕ → Port → Table
with_port t p x = record t { ports = insert t.ports p x }

-- the port's receipts are 0 again; nothing where it is absent
abbrev pub restarted : Table → ℕ → Option Port → Table
restarted t p None = t
restarted t p (Some x) = with_port t p (record x { receipts = 0 })

-- each live port is older than the next birth, and its queue is no longer than this
abbrev pub IsSound : ℕ → ℕ → Map Port → Type 0
IsSound next longest ports = Each (λ p x. (p < next) × (length x.queue ≤ longest)) ports

-- the table of a store
abbrev pub table_of : Store → Table
table_of s = record { next = s.next; ports = s.ports }

-- the store with these spaces and this table
abbrev pub store_of : Map Space → Table → Store
store_of spaces t = record { next = t.next; spaces = spaces; ports = t.ports }

-- the store with no space and no port
abbrev pub no_store : Store
no_store = record { next = 0; spaces = empty; ports = empty }

-- the number that the next task gets: one above the last, if there may be one more
abbrev pub next_task : Store → Option ℕ
next_task s = below limit_of_task_numbers (next_key s.spaces)

-- there are as many live ports, or as many births or tasks have been, as there may be
abbrev pub is_short_of_homes : Store → Bool
is_short_of_homes s =
    is_short (table_of s) || nat_le limit_of_task_numbers (next_key s.spaces)

-- the store with this space for the next task, and a new port of this class
abbrev pub with_home : Store → Space → ℕ → Store
with_home s x class =
    store_of (insert s.spaces (next_key s.spaces) x) (with_birth (table_of s) class)
