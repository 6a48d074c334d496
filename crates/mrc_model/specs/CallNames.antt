-- Believe. Asking what is under names. These calls change nothing. From Mach 3 Kernel Interfaces,
-- mach_port_get_refs, mach_port_type and mach_port_names.
use Rattle.std.specs.Prelude.{ℕ, ◌+◌, map, Ok, nat_lt, if◌then◌else◌}
use Rattle.mrc_base.specs.declared.Right.{Right}
use Rattle.mrc_model.specs.declared.Entry.{Entry}
use Rattle.mrc_model.specs.declared.Entry.TheVariants.{Receive as ReceiveEntry, Send as SendEntry}
use Rattle.mrc_model.specs.declared.Entry.TheVariants.{SendOnce as OnceEntry, PortSet as SetEntry}
use Rattle.mrc_model.specs.declared.Entry.TheVariants.{DeadName as DeadEntry}
use Rattle.mrc_model.specs.declared.Code.TheVariants.{KernInvalidTask}
use Rattle.mrc_model.specs.World.{World, space}
use Rattle.mrc_model.specs.Reply.{Reply, Refs, Mask, Names, Try, ◌>>=◌}
use Rattle.mrc_model.specs.Target.{target, entry_at}
use Rattle.mrc_base.specs.declared.Right.TheVariants as named

-- how many references of the right the entry has; 1 for a right that is there once
abbrev pub refs_of : Entry → Right → ℕ
refs_of (ReceiveEntry p k i) named.Send = k
refs_of (ReceiveEntry p k i) named.Receive = 1
refs_of (SendEntry p k) named.Send = k
refs_of (OnceEntry p) named.SendOnce = 1
refs_of SetEntry named.PortSet = 1
refs_of (DeadEntry k) named.DeadName = k
refs_of e right = 0

-- the rights of an entry as bits
abbrev pub mask_of : Entry → ℕ
mask_of (ReceiveEntry p k i) = (if nat_lt 0 k then 0x10000 else 0) + 0x20000
mask_of (SendEntry p k) = 0x10000
mask_of (OnceEntry p) = 0x40000
mask_of SetEntry = 0x80000
mask_of (DeadEntry k) = 0x100000

-- the references of a right of the name; 0 where it is not there
unfoldable pub call_get_refs : World → ℕ → ℕ → ℕ → Right → Try (World × Reply)
call_get_refs w t task name right = do
  u ← target w t task KernInvalidTask
  e ← entry_at w u name
  Ok (w, Refs (refs_of e right))

-- the mask of a name
unfoldable pub call_type : World → ℕ → ℕ → ℕ → Try (World × Reply)
call_type w t task name = do
  u ← target w t task KernInvalidTask
  e ← entry_at w u name
  Ok (w, Mask (mask_of e))

-- all names of u with their masks, ascending
unfoldable pub call_names : World → ℕ → ℕ → Try (World × Reply)
call_names w t task = do
  u ← target w t task KernInvalidTask
  Ok (w, Names (map (λ (e : ℕ × Entry). (e.0, mask_of e.1)) (space w.store u).list))
