-- Believe. What a call destroys, and the store after it. From Mach 3 Kernel Interfaces,
-- mach_port_destroy, mach_port_mod_refs and task_terminate.
use Rattle.std.specs.Prelude.{ℕ, List, [], ◌∷◌, ◌++◌, Option, Some, None}
use Rattle.mrc_base.specs.declared.PortRight.TheVariants.{Receive}
use Rattle.mrc_model.specs.declared.Entry.{Entry}
use Rattle.mrc_model.specs.declared.Entry.TheVariants.{Receive as ReceiveEntry}
use Rattle.mrc_model.specs.Map.{empty, get, remove}
use Rattle.mrc_model.specs.World.{Space, Store, Held, space, set_space, entry_rights}
use Rattle.mrc_model.specs.Space.{send_entry, put_entry, is_set, members_leave}
use Rattle.mrc_model.specs.Death.{Doomed, destroy}

-- What a call destroys: the receive right under a name, all that stands under a name, or all that a
-- task has, with its kernel port.
pub data Destroyed : Type 0 where
  ReceiveOf : (task name : ℕ) → Destroyed
  EntryOf : (task name : ℕ) → Destroyed
  TaskOf : (task kernel : ℕ) → Destroyed

-- the store without what is destroyed, and the rights that go
pub record TakenOut : Type 0 where
  pub store : Store
  pub doomed : Doomed

-- the task has this space from here on, and these rights go
abbrev pub out_of : Store → ℕ → Space → List Held → TakenOut
out_of s t x hs = record { store = set_space s t x; doomed = record { rights = hs; kernel = None } }

-- the receive right leaves its entry; send references stay
abbrev pub receive_out : Store → ℕ → ℕ → Option Entry → Option TakenOut
receive_out s t n (Some (ReceiveEntry p k i)) =
    Some (out_of s t (put_entry (space s t) n (send_entry p k))
    (record { port = p; right = Receive } ∷ []))
receive_out s t n e = None

-- the entry leaves the space, and where it is a set, its members leave it
abbrev pub entry_out : Store → ℕ → ℕ → Option Entry → Option TakenOut
entry_out s t n None = None
entry_out s t n (Some e) =
    Some (out_of s t (members_leave (is_set e) n (remove (space s t) n)) (entry_rights e))

-- the rights of a whole space
abbrev pub all_rights : List (ℕ × Entry) → List Held
all_rights [] = []
all_rights (e ∷ es) = entry_rights e.1 ++ all_rights es

-- all entries leave the task's space, if it has one
abbrev pub cleared : Store → ℕ → Option Space → Store
cleared s t None = s
cleared s t (Some x) = set_space s t empty

-- All entries leave the space, and the kernel port goes. A task for which the store has no space
-- has the empty one, so the kernel port alone goes.
abbrev pub task_out : Store → ℕ → ℕ → TakenOut
task_out s t p = record {
  store = cleared s t (get s.spaces t);
  doomed = record { rights = all_rights (space s t).list; kernel = Some p };
}

-- what is destroyed is taken out of the store, where it is there
abbrev pub taken_out : Store → Destroyed → Option TakenOut
taken_out s (ReceiveOf t n) = receive_out s t n (get (space s t) n)
taken_out s (EntryOf t n) = entry_out s t n (get (space s t) n)
taken_out s (TaskOf t p) = Some (task_out s t p)

-- what follows from it
abbrev pub destroy_out : Store → Option TakenOut → Store
destroy_out s None = s
destroy_out s (Some out) = destroy out.store out.doomed

-- The store after the destruction: what is destroyed is taken out, and then its rights go with all
-- that follows. What is not there destroys nothing.
unfoldable pub destroyed : Store → Destroyed → Store
destroyed s what = destroy_out s (taken_out s what)
