-- Believe. Dropping a reference, or a whole entry. From Mach 3 Kernel Interfaces,
-- mach_port_deallocate and mach_port_destroy.
use Rattle.std.specs.Prelude.{ℕ, ◌-◌, Option, Some, None, Ok, nat_lt, if◌then◌else◌}
use Rattle.mrc_model.specs.declared.Entry.{Entry}
use Rattle.mrc_model.specs.declared.Entry.TheVariants.{Receive as ReceiveEntry, Send as SendEntry}
use Rattle.mrc_model.specs.declared.Entry.TheVariants.{SendOnce as OnceEntry}
use Rattle.mrc_model.specs.declared.Entry.TheVariants.{PortSet as SetEntry, DeadName as DeadEntry}
use Rattle.mrc_model.specs.declared.Code.TheVariants.{KernInvalidTask}
use Rattle.mrc_model.specs.World.{Store, World, space, set_space}
use Rattle.mrc_model.specs.Reply.{Reply, Done, Try, ◌>>=◌, or_refuse}
use Rattle.mrc_model.specs.Space.{send_entry, dead_entry, put_entry}
use Rattle.mrc_model.specs.Destroyed.{ReceiveOf, EntryOf, destroyed}
use Rattle.mrc_model.specs.Target.{with_store, target, wrong_right, entry_at}

-- What a call does with an entry: this is left of it and no right is destroyed, or its receive
-- right is destroyed, or all of it is.
pub data Change : Type 0 where
  Remains : Option Entry → Change
  DestroysReceive : Change
  DestroysEntry : Change

-- the store after the change of the name's entry
abbrev pub changed : Store → ℕ → ℕ → Change → Store
changed s u n (Remains rest) = set_space s u (put_entry (space s u) n rest)
changed s u n DestroysReceive = destroyed s (ReceiveOf u n)
changed s u n DestroysEntry = destroyed s (EntryOf u n)

-- one send or dead reference is dropped, or the send-once right destroyed
abbrev pub drop_one : Entry → Option Change
drop_one (ReceiveEntry p k i) =
    if nat_lt 0 k then Some (Remains (Some (ReceiveEntry p (k - 1) i))) else None
drop_one (SendEntry p k) = Some (Remains (send_entry p (k - 1)))
drop_one (OnceEntry p) = Some DestroysEntry
drop_one SetEntry = None
drop_one (DeadEntry k) = Some (Remains (dead_entry (k - 1)))

-- one reference of a name, or its send-once right, goes
unfoldable pub call_deallocate : World → ℕ → ℕ → ℕ → Try (World × Reply)
call_deallocate w t task name = do
  u ← target w t task KernInvalidTask
  e ← entry_at w u name
  c ← or_refuse (drop_one e) wrong_right
  Ok (with_store w (changed w.store u name c), Done)

-- a name goes with all its rights
unfoldable pub call_destroy : World → ℕ → ℕ → ℕ → Try (World × Reply)
call_destroy w t task name = do
  u ← target w t task KernInvalidTask
  e ← entry_at w u name
  Ok (with_store w (changed w.store u name DestroysEntry), Done)
